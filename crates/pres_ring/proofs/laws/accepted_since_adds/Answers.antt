use Rattle.pres_ring.proofs.AcceptedSince.{accepted_since_adds}
use Rattle.pres_ring.proofs.laws.accepted_since_adds.Goals as goal

pub returns : goal.returns
returns c = accepted_since_adds
