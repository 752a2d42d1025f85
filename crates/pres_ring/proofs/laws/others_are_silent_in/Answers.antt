use Rattle.pres_ring.proofs.HistoriesTell.{others_are_silent}
use Rattle.pres_ring.proofs.laws.others_are_silent_in.Goals as goal

pub returns : goal.returns
returns c = others_are_silent
