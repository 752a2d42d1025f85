use Rattle.pres_ring.proofs.Turns.{slow_ends}
use Rattle.pres_ring.proofs.laws.slow_ends.Goals as goal

pub returns : goal.returns
returns c = slow_ends
