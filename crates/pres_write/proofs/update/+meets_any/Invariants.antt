use Rattle.std.proofs.Common.{length}
use Rattle.pres_write.proofs.update.+meets_any.Given as goal

abbrev pub decreases-meets_any : goal.decreases-meets_any
decreases-meets_any l = length l.others.now
