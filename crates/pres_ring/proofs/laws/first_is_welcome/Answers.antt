use Rattle.pres_ring.proofs.BeginsIn.{first_told}
use Rattle.pres_ring.proofs.laws.first_is_welcome.Goals as goal

pub returns : goal.returns
returns c = first_told
