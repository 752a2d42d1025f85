use Rattle.std.proofs.Common.{length}
use Rattle.pres_write.proofs.update.+meet_anywhere.Given as goal

abbrev pub decreases-meet_anywhere : goal.decreases-meet_anywhere
decreases-meet_anywhere l = length l.places.now
