use Rattle.std.proofs.Common.{length}
use Rattle.pres_fan.proofs.index.+add_met.Given as goal

abbrev pub decreases-add_met : goal.decreases-add_met
decreases-add_met l = length l.keys.now
