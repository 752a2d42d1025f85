use Rattle.std.proofs.Common.{◌≡◌, take}
use Rattle.std.specs.Map.{values_of}
use Rattle.pres_plan.specs.Plans.{due}
use Rattle.pres_plan.proofs.plan.Plan.due_writes.Given as goal

abbrev pub invariant-loop-row : goal.invariant-loop-row
invariant-loop-row l = l.writes.items ≡ due l.tree l.moment (values_of (take l.row-index l.row-items))
