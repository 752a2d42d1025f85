use Rattle.std.proofs.Common.{length}
use Rattle.pres_write.proofs.update.+has_deep.Given as goal

abbrev pub decreases-has_deep : goal.decreases-has_deep
decreases-has_deep l = length l.places.now
