use Rattle.pres_fan.proofs.Rows.{touched_rise, touched_paths_rise}
use Rattle.pres_fan.proofs.laws.touched_rises.Goals as goal

pub returns : goal.returns
returns c = λ writes ls held. (touched_rise writes ls held, λ s. touched_paths_rise writes s ls held)
