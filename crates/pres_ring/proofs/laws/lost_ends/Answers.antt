use Rattle.pres_ring.proofs.Turns.{lost_ends}
use Rattle.pres_ring.proofs.laws.lost_ends.Goals as goal

pub returns : goal.returns
returns c = lost_ends
