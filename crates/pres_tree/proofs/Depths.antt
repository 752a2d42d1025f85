-- How deep values are.
use Rattle.std.proofs.Common.{◌≡◌, ◌+◌, ◌≤◌, ℕ, max, List, [], ◌∷◌, ◌++◌, length, true, false, cond, is_some, Some, refl, ap, ◌∙◌, arith}
use Rattle.std.specs.declared.cmp.Ordering.TheVariants.{Less, Equal, Greater}
use Rattle.std.specs.Ordering.{is_eq, eq_by_cmp}
use Rattle.std.specs.Cmp.{tied_itself}
use Rattle.std.specs.FinMap.Entries.{put, by_order}
use Rattle.pres_tree.specs.Keys.{Key}
use Rattle.pres_tree.specs.Paths.{Path, max_depth, path_cmp, sorted_by}
use Rattle.pres_tree.specs.Rows.{Rows, IsValue, Holds, is_null, leaf_at, depth_of, height, placed}
use Rattle.pres_tree.specs.Layer.{Children, child_rows, deepest_of, rows_of_node}
use Rattle.pres_tree.specs.declared.nested.Node.{Node}
use Rattle.pres_tree.specs.declared.nested.Node.TheVariants.{Empty, Leaf, Object}
use Rattle.pres_tree.specs.Falls.{path_total, path_same}

-- ---- what holds of each place holds of each row

holds_head : {A : Type 0} (r : Path × A) (v : Rows A) → Holds (r ∷ v) r.0
holds_head r v = ap (λ b. is_some (cond b (Some r.1) (leaf_at v r.0))) (ap is_eq (tied_itself path_total r.0))

holds_tail : {A : Type 0} (r : Path × A) (v : Rows A) (x : Path) → Holds v x → Holds (r ∷ v) x
holds_tail r v x h = elim (eq_by_cmp path_cmp x r.0) as (λ b. is_some (cond b (Some r.1) (leaf_at v x)) ≡ true) [ true ↦ refl | false ↦ h ]

pub depth-bound : {A : Type 0} (n : ℕ) (v : Rows A) → ((x : Path) → Holds v x → length x ≤ n) → depth_of v ≤ n
depth-bound n [] h = omega arith
depth-bound n (r ∷ v) h = omega (arith, h r.0 (holds_head r v), depth-bound n v (λ x g. h x (holds_tail r v x g)))

pub depth-small : {A : Type 0} (v : Rows A) → IsValue v → depth_of v ≤ max_depth
depth-small v h = depth-bound max_depth v (λ x g. (h.paths x g).0)

-- ---- the depth of an object

depth-put : {A : Type 0} (k : Path) (a : A) (v : Rows A) → depth_of (put path_cmp k a v) ≡ max (length k) (depth_of v)
depth-put k a [] = refl
depth-put k a (r ∷ v) =
    elim (path_cmp k r.0) as (λ o. path_cmp k r.0 ≡ o → depth_of (by_order o ((k, a) ∷ r ∷ v) ((r.0, a) ∷ v) (r ∷ put path_cmp k a v)) ≡ max (length k) (depth_of (r ∷ v))) [
      | Less ↦ λ p. refl
      | Equal ↦ λ p. let same : length k ≡ length r.0 = ap length (path_same k r.0 p) in omega arith
      | Greater ↦ λ p. omega (arith, depth-put k a v)
    ] refl

pub depth-sorted_by : {A : Type 0} (v : Rows A) → depth_of (sorted_by path_cmp v) ≡ depth_of v
depth-sorted_by [] = refl
depth-sorted_by (r ∷ v) = depth-put r.0 r.1 (sorted_by path_cmp v) ∙ ap (max (length r.0)) (depth-sorted_by v)

depth-append : {A : Type 0} (v w : Rows A) → depth_of (v ++ w) ≡ max (depth_of v) (depth_of w)
depth-append [] w = omega arith
depth-append (r ∷ v) w = omega (arith, depth-append v w)

depth-placed : {A : Type 0} (k : Key) (v : Rows A) → is_null v ≡ false → depth_of (placed (k ∷ []) v) ≡ depth_of v + 1
depth-placed k [] h = cc
depth-placed k (r ∷ []) h = omega arith
depth-placed k (r ∷ q ∷ v) h = omega (arith, depth-placed k (q ∷ v) refl)

depth-child_rows : {A : Type 0} (es : List (Key × Rows A)) → Children es → depth_of (child_rows es) ≡ deepest_of es
depth-child_rows [] h = refl
depth-child_rows (e ∷ es) h =
    omega (arith, depth-append (placed (e.0 ∷ []) e.1) (child_rows es), depth-placed e.0 e.1 h.0.0, depth-child_rows es h.1)

pub depth-object : {A : Type 0} (es : List (Key × Rows A)) → Children es → depth_of (sorted_by path_cmp (child_rows es)) ≡ deepest_of es
depth-object es h = depth-sorted_by (child_rows es) ∙ depth-child_rows es h

-- ---- one more than the depth

pub height-depth : {A : Type 0} (v : Rows A) → height v ≤ depth_of v + 1
height-depth [] = omega arith
height-depth (r ∷ v) = omega (arith, height-depth v)

-- ---- without children

depth_of_node : {A : Type 0} (n : Node A) → ((m : _) → n ≡ Object m → ⊥) → 0 ≡ depth_of (rows_of_node n)
depth_of_node Empty ne = refl
depth_of_node (Leaf s) ne = refl
depth_of_node (Object m) ne = absurd (ne m refl)

pub depth-other : {A : Type 0} (n : Node A) (t : Rows A) → rows_of_node n ≡ t → ((m : _) → n ≡ Object m → ⊥) → 0 ≡ depth_of t
depth-other n t v ne = depth_of_node n ne ∙ ap depth_of v
