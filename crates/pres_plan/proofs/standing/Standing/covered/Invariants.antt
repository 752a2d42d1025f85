use Rattle.std.proofs.Common.{◌≡◌, ℕ, eqb, take}
use Rattle.std.specs.List.{list_any}
use Rattle.pres_plan.specs.Plans.{path_of}
use Rattle.pres_plan.specs.Standing.{numbers_below}
use Rattle.pres_plan.proofs.standing.Standing.covered.Given as goal

abbrev pub invariant-loop-row : goal.invariant-loop-row
invariant-loop-row l =
    (n : ℕ) → list_any (λ m. eqb m n) l.made.items ≡ list_any (λ row. list_any (λ m. eqb m n) (numbers_below (path_of row.action) l.self.places)) (take l.row-index l.rows)
