use Rattle.pres_fan.proofs.Places.{paths_rise}
use Rattle.pres_fan.proofs.laws.paths_rise.Goals as goal

pub returns : goal.returns
returns c = paths_rise
