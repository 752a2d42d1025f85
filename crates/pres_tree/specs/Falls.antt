-- Each child is lower than its parent.
use Rattle.std.specs.Prelude.{◌≡◌, ◌+◌, ◌<◌, ◌≤◌, max, List, [], ◌∷◌, ◌++◌, length, refl, false}
use Rattle.std.proofs.Common.{arith, ap, ◌∙◌}
use Rattle.std.specs.Map.{values_of}
use Rattle.std.specs.declared.cmp.Ordering.TheVariants.{Less, Equal, Greater}
use Rattle.std.specs.Cmp.{IsTotalOrder}
use Rattle.std.specs.Cmp.Lexicographic.{lists_total, nat_list_cmp_total}
use Rattle.std.specs.FinMap.{nat_cmp-IsAntisymmetric, slice_cmp-IsAntisymmetric}
use Rattle.std.specs.FinMap.Entries.{put, by_order}
use Rattle.pres_tree.specs.Keys.{Key}
use Rattle.pres_tree.specs.Paths.{Path, path_cmp, sorted_by}
use Rattle.pres_tree.specs.Rows.{Rows, height, is_null, placed}
use Rattle.pres_tree.specs.Layer.{child_rows, rows_of_node, Children, IsNode}
use Rattle.pres_tree.specs.declared.nested.Node.{Node}
use Rattle.pres_tree.specs.declared.nested.Node.TheVariants.{Empty, Leaf, Object}
use Rattle.pres_tree.specs.declared.nested.Nested.TheDeep.{deep-Node}
use denote.Param.Weighed.{most}

pub path_total : IsTotalOrder path_cmp
path_total = lists_total nat_list_cmp_total

pub path_same : (x y : Path) → path_cmp x y ≡ Equal → x ≡ y
path_same = slice_cmp-IsAntisymmetric (slice_cmp-IsAntisymmetric nat_cmp-IsAntisymmetric)

pub height-put : {A : Type 0} (k : Path) (v : A) (es : Rows A) → height (put path_cmp k v es) ≡ max (length k + 1) (height es)
height-put k v [] = refl
height-put k v (e ∷ es) =
    elim (path_cmp k e.0) as (λ o. path_cmp k e.0 ≡ o → height (by_order o ((k, v) ∷ e ∷ es) ((e.0, v) ∷ es) (e ∷ put path_cmp k v es)) ≡ max (length k + 1) (height (e ∷ es))) [
      | Less ↦ λ p. refl
      | Equal ↦ λ p. let same : length k ≡ length e.0 = ap length (path_same k e.0 p) in omega arith
      | Greater ↦ λ p. omega (arith, height-put k v es)
    ] refl

pub height-sorted_by : {A : Type 0} (rs : Rows A) → height (sorted_by path_cmp rs) ≡ height rs
height-sorted_by [] = refl
height-sorted_by (r ∷ rs) = height-put r.0 r.1 (sorted_by path_cmp rs) ∙ ap (λ n. max (length r.0 + 1) n) (height-sorted_by rs)

pub height-positive : {A : Type 0} (v : Rows A) → is_null v ≡ false → 0 < height v
height-positive [] h = cc
height-positive (r ∷ v) h = omega arith

pub height-append : {A : Type 0} (rs qs : Rows A) → height (rs ++ qs) ≡ max (height rs) (height qs)
height-append [] qs = omega arith
height-append (r ∷ rs) qs = omega (arith, height-append rs qs)

pub height-placed : {A : Type 0} (k : Key) (rs : Rows A) → 0 < height rs → height (placed (k ∷ []) rs) ≡ height rs + 1
height-placed k [] h = omega arith
height-placed k (r ∷ []) h = omega arith
height-placed k (r ∷ q ∷ rs) h =
    let more : 0 < height (q ∷ rs) = omega arith in
    omega (arith, height-placed k (q ∷ rs) more)

pub most-height : {A : Type 0} (es : List (Key × Rows A)) → Children es → most (λ v. height v + 1) (values_of es) ≤ height (child_rows es)
most-height [] h = omega arith
most-height (e ∷ es) h =
    omega (arith, most-height es h.1, height-placed e.0 e.1 (height-positive e.1 h.0.0), height-append (placed (e.0 ∷ []) e.1) (child_rows es))

pub falls : {A : Type 0} (n : Node A) → IsNode n → max (deep-Node A n) 0 ≤ height (rows_of_node n)
falls Empty h = omega arith
falls (Leaf s) h = omega arith
falls (Object m) h = omega (arith, most-height m.entries h.1, height-sorted_by (child_rows m.entries))
