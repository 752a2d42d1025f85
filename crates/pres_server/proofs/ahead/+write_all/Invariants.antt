use Rattle.std.proofs.Common.{length}
use Rattle.pres_server.proofs.ahead.+write_all.Given as goal

abbrev pub decreases-write_all : goal.decreases-write_all
decreases-write_all l = length l.batches.now
