use Rattle.pres_world.proofs.Whole.{stays_safe}
use Rattle.pres_world.proofs.laws.worlds_stay_safe.Goals as goal

pub returns : goal.returns
returns c = stays_safe
