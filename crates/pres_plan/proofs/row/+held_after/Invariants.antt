use Rattle.std.proofs.Common.{length}
use Rattle.pres_plan.proofs.row.+held_after.Given as goal

abbrev pub decreases-held_after : goal.decreases-held_after
decreases-held_after l = length l.before.now
