use Rattle.std.proofs.Common.{◌≡◌}
use Rattle.pres_plan.specs.Plans.{puts}
use Rattle.pres_plan.proofs.plan.put_rows.Given as goal

abbrev pub invariant-loop-placement : goal.invariant-loop-placement
invariant-loop-placement l =
    (goal.iterator-loop-placement).can_next l.placement-iterator
    × (goal.iterator-loop-placement).is_finite l.placement-iterator
    × (l.made.items ≡ puts l.q l.yielded)
