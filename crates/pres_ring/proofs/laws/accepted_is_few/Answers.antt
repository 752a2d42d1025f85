use Rattle.pres_ring.proofs.Made.{accepted_is_few}
use Rattle.pres_ring.proofs.laws.accepted_is_few.Goals as goal

pub returns : goal.returns
returns c = accepted_is_few
