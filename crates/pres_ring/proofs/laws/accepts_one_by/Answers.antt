use Rattle.pres_ring.proofs.TurnsBy.{accepts_one}
use Rattle.pres_ring.proofs.laws.accepts_one_by.Goals as goal

pub returns : goal.returns
returns c = accepts_one
