use Rattle.std.proofs.Common.{◌≡◌, List, length, take}
use Rattle.pres_plan.specs.declared.row.PlanRow.{PlanRow}
use Rattle.pres_plan.specs.Standing.{Tells, AreTops}
use Rattle.pres_plan.proofs.standing.Standing.cut.Given as goal

abbrev pub invariant-loop-self : goal.invariant-loop-self
invariant-loop-self l = record {
  tells : Tells l.self.places l.self.rows;
  tops : (rows : List PlanRow) → AreTops rows l.fn.self.places → AreTops rows l.self.places;
  rows : take l.len l.self.rows ≡ take l.len l.fn.self.rows;
}

abbrev pub decreases-loop-self : goal.decreases-loop-self
decreases-loop-self l = length l.self.rows
