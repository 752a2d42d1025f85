-- What stands at a path of a value fits there.
use Rattle.std.proofs.Common.{Result, Ok, Err, subst, ◌≡◌, ◌++◌, is_some, sym, ap, ◌∙◌}
use Rattle.std.specs.Result.{IfOk}
use Rattle.pres_tree.specs.Paths.{Path}
use Rattle.pres_tree.specs.Rows.{Rows, IsValue, Fits, value_at}
use Rattle.pres_tree.proofs.Found.{leaf_at-value_at}

pub fits_held : {A : Type 0} (p : Path) (t : Rows A) → IsValue t → Fits p (value_at p t)
fits_held p t value x k = value.paths (p ++ x) (sym (ap is_some (leaf_at-value_at p t x)) ∙ k)

pub fits_copied : {A E : Type 0} (p : Path) (t v : Rows A) (r : Result (Rows A) E) → IsValue t → value_at p t ≡ v → IfOk r (λ made. made ≡ v) → IfOk r (λ made. Fits p made)
fits_copied p t v (Ok made) value e h = subst (Fits p) (e ∙ sym h) (fits_held p t value)
fits_copied p t v (Err x) value e h = tt
