use Rattle.std.proofs.Common.{length}
use Rattle.pres_server.proofs.ahead.+done_of.Given as goal

abbrev pub decreases-done_of : goal.decreases-done_of
decreases-done_of l = length l.batches.now
