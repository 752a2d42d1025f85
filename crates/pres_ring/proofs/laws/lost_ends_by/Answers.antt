use Rattle.pres_ring.proofs.TurnsBy.{lost_ends}
use Rattle.pres_ring.proofs.laws.lost_ends_by.Goals as goal

pub returns : goal.returns
returns c = lost_ends
