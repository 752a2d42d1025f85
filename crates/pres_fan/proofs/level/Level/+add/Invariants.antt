use Rattle.std.proofs.Common.{length}
use Rattle.pres_fan.proofs.level.Level.+add.Given as goal

abbrev pub decreases-add : goal.decreases-add
decreases-add l = length l.keys.now
