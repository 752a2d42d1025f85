use Rattle.pres_ring.proofs.TurnsBy.{slow_ends}
use Rattle.pres_ring.proofs.laws.slow_ends_by.Goals as goal

pub returns : goal.returns
returns c = slow_ends
