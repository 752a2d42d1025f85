use Rattle.std.proofs.Common.{length}
use Rattle.pres_server.proofs.ahead.+said_of.Given as goal

abbrev pub decreases-said_of : goal.decreases-said_of
decreases-said_of l = length l.batches.now
