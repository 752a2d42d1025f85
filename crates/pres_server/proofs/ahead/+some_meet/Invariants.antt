use Rattle.std.proofs.Common.{length}
use Rattle.pres_server.proofs.ahead.+some_meet.Given as goal

abbrev pub decreases-some_meet : goal.decreases-some_meet
decreases-some_meet l = length l.batches.now
