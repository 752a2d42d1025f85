-- How deep the rows of a value go.
use Rattle.std.proofs.Common.{◌≡◌, ℕ, ◌+◌, ◌-◌, ◌<◌, ◌≤◌, [], ◌∷◌, ◌++◌, length, length-append, Bool, true, false, true≢false, cond, ◌&&◌, Some, is_some, IsTrue, refl, sym, ap, arith}
use Rattle.std.proofs.lemmas.List.Folds.{list_all-append}
use Rattle.std.specs.Ordering.{eq_by_cmp}
use Rattle.std.specs.Cmp.{eq_by_cmp_equiv}
use Rattle.pres_tree.specs.Falls.{path_total, path_same}
use Rattle.pres_tree.specs.Keys.{is_key}
use Rattle.pres_tree.specs.Paths.{Path, IsPath, path_cmp}
use Rattle.pres_tree.proofs.Depths.{depth-bound, depth-small}
use Rattle.pres_tree.specs.Rows.{Rows, IsValue, Fits, Holds, leaf_at, depth_of, height}
use Rattle.pres_write.proofs.Ordered.{tied}

first_holds : {A : Type 0} (p : Path) (a : A) (v : Rows A) → Holds ((p, a) ∷ v) p
first_holds p a v = ap (λ b. is_some (cond b (Some a) (leaf_at v p))) ((eq_by_cmp_equiv path_total).refl p)

rest_holds : {A : Type 0} (p : Path) (a : A) (v : Rows A) (x : Path) → Holds v x → Holds ((p, a) ∷ v) x
rest_holds p a v x h = elim (eq_by_cmp path_cmp x p) as (λ b. is_some (cond b (Some a) (leaf_at v x)) ≡ true) [ true ↦ refl | false ↦ h ]

pub height_within : {A : Type 0} (v : Rows A) (n : ℕ) → ((x : Path) → Holds v x → length x < n) → height v ≤ n
height_within [] n h = omega arith
height_within ((p, a) ∷ v) n h =
    let here = h p (first_holds p a v) in
    let rest = height_within v n (λ x k. h x (rest_holds p a v x k)) in
    omega arith

pub depth_within : {A : Type 0} (v : Rows A) (n : ℕ) → ((x : Path) → Holds v x → length x ≤ n) → depth_of v ≤ n
depth_within v n h = depth-bound n v h

pub value_depth : {A : Type 0} (v : Rows A) → IsValue v → depth_of v ≤ 32
value_depth v h = depth-small v h

pub fits_height : {A : Type 0} (p : Path) (v : Rows A) → Fits p v → height v ≤ 33 - length p
fits_height p v h = height_within v (33 - length p) (λ x k. omega (arith, (h x k).0, length-append p x))

holds_depth : {A : Type 0} (v : Rows A) (x : Path) → Holds v x → length x ≤ depth_of v
holds_depth [] x h = absurd (true≢false (sym h))
holds_depth ((p, a) ∷ v) x h =
    elim (eq_by_cmp path_cmp x p) as (λ b. eq_by_cmp path_cmp x p ≡ b → is_some (cond b (Some a) (leaf_at v x)) ≡ true → length x ≤ depth_of ((p, a) ∷ v)) [
      | true ↦ λ e k. let same : length x ≡ length p = ap length (tied path_cmp path_same x p e) in omega arith
      | false ↦ λ e k. let rest = holds_depth v x k in omega arith
    ] refl h

both : (a b : Bool) → IsTrue a → IsTrue b → IsTrue (a && b)
both true b h k = k
both false b h k = h

pub depth_fits : {A : Type 0} (p : Path) (v : Rows A) → IsPath p → IsValue v → length p + depth_of v ≤ 32 → Fits p v
depth_fits p v path value low x h = (omega (arith, length-append p x, holds_depth v x h), rw (list_all-append is_key p x) (both _ _ path.1 (value.paths x h).1))

pub fits_joined : {A : Type 0} (p q : Path) (v : Rows A) → IsPath p → IsPath q → IsValue v → length p + length q + depth_of v ≤ 32 → IsPath (p ++ q) × Fits (p ++ q) v
fits_joined p q v first second value low =
    let whole : IsPath (p ++ q) = (omega (arith, length-append p q), rw (list_all-append is_key p q) (both _ _ first.1 second.1)) in
    (whole, depth_fits (p ++ q) v whole value (omega (arith, length-append p q)))
