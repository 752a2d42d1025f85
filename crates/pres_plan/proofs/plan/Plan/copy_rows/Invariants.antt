-- the copies so far, and the rows that are left, are all of them
use Rattle.std.proofs.Common.{◌≡◌, ◌++◌, drop}
use Rattle.std.specs.Map.{values_of}
use Rattle.pres_plan.proofs.plan.Plan.copy_rows.Given as goal

abbrev pub invariant-loop-row : goal.invariant-loop-row
invariant-loop-row l = l.made.items ++ values_of (drop l.row-index l.row-items) ≡ values_of l.row-items
