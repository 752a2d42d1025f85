use Rattle.std.proofs.Common.{◌≡◌, List, eqb, not, filter, take}
use Rattle.std.specs.List.{list_any}
use Rattle.pres_plan.specs.declared.row.PlanRow.{PlanRow}
use Rattle.pres_plan.specs.Standing.{Tells, AreTops}
use Rattle.pres_plan.proofs.standing.Standing.remove_all.Given as goal

abbrev pub invariant-loop-number : goal.invariant-loop-number
invariant-loop-number l = record {
  tells : Tells l.self.places l.self.rows;
  tops : (rows : List PlanRow) → AreTops rows l.fn.self.places → AreTops rows l.self.places;
  rows : l.self.rows ≡ filter (λ e. not (list_any (λ n. eqb n e.0) (take l.number-index l.numbers))) l.fn.self.rows;
}
