use Rattle.pres_ring.proofs.Turns.{restart_ends}
use Rattle.pres_ring.proofs.laws.restart_ends.Goals as goal

pub returns : goal.returns
returns c = restart_ends
