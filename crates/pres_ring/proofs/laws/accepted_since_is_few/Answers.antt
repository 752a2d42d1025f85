use Rattle.pres_ring.proofs.AcceptedSince.{accepted_since_is_few}
use Rattle.pres_ring.proofs.laws.accepted_since_is_few.Goals as goal

pub returns : goal.returns
returns c = accepted_since_is_few
