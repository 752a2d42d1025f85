use Rattle.std.proofs.Common.{length}
use Rattle.pres_server.proofs.ahead.+meets.Given as goal

abbrev pub decreases-meets : goal.decreases-meets
decreases-meets l = length l.writes.now
