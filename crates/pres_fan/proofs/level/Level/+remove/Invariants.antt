use Rattle.std.proofs.Common.{length}
use Rattle.pres_fan.proofs.level.Level.+remove.Given as goal

abbrev pub decreases-remove : goal.decreases-remove
decreases-remove l = length l.keys.now
