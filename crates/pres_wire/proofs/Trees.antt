-- Trees that are values are read again as they are printed, and nest few levels.
use Rattle.std.proofs.Common.{◌≡◌, ℕ, ◌≤◌, ◌<◌, [], ◌∷◌, length, true, false, cond, Some, None, is_none, is_some, refl, sym, ap, ◌∙◌, Result, Ok, Err, arith}
use Rattle.std.specs.Prelude.{IfOk}
use Rattle.std.specs.declared.alloc.AllocError.{AllocError}
use Rattle.serde_json.specs.View.{view}
use Rattle.serde_json.specs.declared.value.Value.{Value}
use Rattle.std.specs.Ordering.{eq_by_cmp}
use Rattle.std.specs.Cmp.{eq_by_cmp_equiv}
use Rattle.serde_json.specs.Data.{Data, null, boolean, number, string, array, object, depth}
use Rattle.pres_tree.specs.declared.scalar.Scalar.{Scalar}
use Rattle.pres_tree.specs.Falls.{path_total}
use Rattle.pres_tree.specs.Paths.{Path, path_cmp}
use Rattle.pres_tree.specs.Rows.{Rows, IsValue, Holds, leaf_at, height}
use Rattle.pres_tree.specs.JsonReading.{leaf, fault_of}
use Rattle.pres_tree.specs.JsonPrinting.{json_of, ReadsBack}
use Rattle.pres_tree.specs.Scalars.{scalar_printing, scalar_reading}
use Rattle.pres_wire.specs.DownReads.{value_of}
use Rattle.pres_wire.proofs.Nesting.{Flat, rows_low}
use Rattle.pres_wire.proofs.OpNesting.{scalar_solid, number_leaf}

first_holds : {A : Type 0} (p : Path) (a : A) (v : Rows A) → Holds ((p, a) ∷ v) p
first_holds p a v = ap (λ b. is_some (cond b (Some a) (leaf_at v p))) ((eq_by_cmp_equiv path_total).refl p)

rest_holds : {A : Type 0} (p : Path) (a : A) (v : Rows A) (x : Path) → Holds v x → Holds ((p, a) ∷ v) x
rest_holds p a v x h = elim (eq_by_cmp path_cmp x p) as (λ b. is_some (cond b (Some a) (leaf_at v x)) ≡ true) [ true ↦ refl | false ↦ h ]

pub height_within : {A : Type 0} (v : Rows A) (n : ℕ) → ((x : Path) → Holds v x → length x < n) → height v ≤ n
height_within [] n h = omega arith
height_within ((p, a) ∷ v) n h =
    let here = h p (first_holds p a v) in
    let rest = height_within v n (λ x k. h x (rest_holds p a v x k)) in
    omega arith

value_flat_low : (d : Data) (a : Scalar) → scalar_reading d ≡ leaf a → depth d ≤ 1
value_flat_low null a h = omega arith
value_flat_low (boolean b) a h = omega arith
value_flat_low (number n) a h = omega arith
value_flat_low (string s) a h = omega arith
value_flat_low (array ds) a h = cc
value_flat_low (object ms) a h = cc

pub value_flat : Flat 0 scalar_reading
value_flat = record { low = value_flat_low; booleans = λ b. refl; numbers = number_leaf; strings = λ s. refl }

tree_fault : (v : Rows Scalar) (d : Data) → IsValue v → ReadsBack scalar_reading v d → fault_of scalar_reading 33 d ≡ None
tree_fault v d value reads = reads.1 33 (height_within v 33 (λ x h. let low = (value.paths x h).0 in omega arith))

tree_low : (v : Rows Scalar) → fault_of scalar_reading 33 (json_of scalar_printing v) ≡ None → depth (json_of scalar_printing v) ≤ 33
tree_low v h = rows_low scalar_reading scalar_printing value_flat scalar_solid v 33 h

-- what a tree is printed as is read as the tree
pub tree_made : (r : Result Value AllocError) (v : Rows Scalar) → IsValue v → IfOk r (λ made. view made ≡ json_of scalar_printing v) → IfOk r (λ made. ReadsBack scalar_reading v (view made)) → IfOk r (λ _. value_of (json_of scalar_printing v) ≡ Some v)
tree_made (Ok made) v value is reads = ap value_of (sym is) ∙ (λ i. cond (is_none (tree_fault v (view made) value reads i)) (Some (reads.0 i)) None)
tree_made (Err e) v value is reads = tt

-- and nests no deeper than a path has keys
pub tree_made_low : (r : Result Value AllocError) (v : Rows Scalar) → IsValue v → IfOk r (λ made. view made ≡ json_of scalar_printing v) → IfOk r (λ made. ReadsBack scalar_reading v (view made)) → IfOk r (λ _. depth (json_of scalar_printing v) ≤ 33)
tree_made_low (Ok made) v value is reads = tree_low v (ap (fault_of scalar_reading 33) (sym is) ∙ tree_fault v (view made) value reads)
tree_made_low (Err e) v value is reads = tt

-- what is written of a tree is read as the tree
pub tree_read : (v : Rows Scalar) → IsValue v → ReadsBack scalar_reading v (json_of scalar_printing v) → value_of (json_of scalar_printing v) ≡ Some v
tree_read v value reads = λ i. cond (is_none (tree_fault v (json_of scalar_printing v) value reads i)) (Some (reads.0 i)) None

pub tree_read_low : (v : Rows Scalar) → IsValue v → ReadsBack scalar_reading v (json_of scalar_printing v) → depth (json_of scalar_printing v) ≤ 33
tree_read_low v value reads = tree_low v (tree_fault v (json_of scalar_printing v) value reads)
