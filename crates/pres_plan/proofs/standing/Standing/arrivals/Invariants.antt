use Rattle.std.proofs.Common.{◌≡◌, map, All}
use Rattle.std.specs.Map.{values_of}
use Rattle.pres_plan.specs.Plans.{path_of}
use Rattle.pres_plan.specs.Standing.{IsTop}
use Rattle.pres_plan.proofs.standing.Standing.arrivals.Given as goal

abbrev pub invariant-loop-row : goal.invariant-loop-row
invariant-loop-row l = record {
  can_next : (goal.iterator-loop-row).can_next l.row-iterator;
  is_finite : (goal.iterator-loop-row).is_finite l.row-iterator;
  rows : map (λ a. a.row) l.made.items ≡ l.yielded;
  places : All (λ a. a.place ≡ path_of a.row.action) l.made.items;
  tops : All (λ a. IsTop (values_of l.self.rows) a.place a.top) l.made.items;
}
