use Rattle.std.proofs.Common.{length}
use Rattle.tests_of_server.proofs.tests.schedules.check_schedule.Given as goal

-- fewer cases are left
abbrev pub decreases-loop-case : goal.decreases-loop-case
decreases-loop-case g l = length l.rest
