use Rattle.std.proofs.Common.{◌≡◌, ◌++◌, List, map, All}
use Rattle.std.specs.Map.{values_of}
use Rattle.pres_plan.specs.declared.row.PlanRow.{PlanRow}
use Rattle.pres_plan.specs.Standing.{Entries, Tells, IsTop, AreTops}
use Rattle.pres_plan.proofs.standing.Standing.add_all.Given as goal

abbrev pub invariant-loop-arrival : goal.invariant-loop-arrival
invariant-loop-arrival l = record {
  can_next : (goal.iterator-loop-arrival).can_next l.arrival-iterator;
  is_finite : (goal.iterator-loop-arrival).is_finite l.arrival-iterator;
  tells : Tells l.self.places l.self.rows;
  tops : (rows : List PlanRow) → AreTops rows l.fn.self.places → All (λ a. IsTop rows a.place a.top) l.fn.new.items → AreTops rows l.self.places;
  rows : (more : Entries) × (l.self.rows ≡ l.fn.self.rows ++ more) × (values_of more ≡ map (λ a. a.row) l.yielded);
}
