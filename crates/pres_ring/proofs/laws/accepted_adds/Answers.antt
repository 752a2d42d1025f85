use Rattle.pres_ring.proofs.Made.{accepted_adds}
use Rattle.pres_ring.proofs.laws.accepted_adds.Goals as goal

pub returns : goal.returns
returns c = accepted_adds
