use Rattle.std.proofs.Common.{◌≡◌, take}
use Rattle.pres_base.proofs.plans.plan_of_rows.Given as goal

abbrev pub invariant-loop-row : goal.invariant-loop-row
invariant-loop-row l = l.plan ≡ take l.row-index l.rows
