use Rattle.pres_ring.proofs.Turns.{accepts_one}
use Rattle.pres_ring.proofs.laws.accepts_one.Goals as goal

pub returns : goal.returns
returns c = accepts_one
