use Rattle.pres_ring.proofs.Answered.{others_are_silent}
use Rattle.pres_ring.proofs.laws.others_are_silent.Goals as goal

pub returns : goal.returns
returns c = others_are_silent
