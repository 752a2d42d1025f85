use Rattle.pres_ring.proofs.TurnsBy.{restart_ends}
use Rattle.pres_ring.proofs.laws.restart_ends_by.Goals as goal

pub returns : goal.returns
returns c = restart_ends
