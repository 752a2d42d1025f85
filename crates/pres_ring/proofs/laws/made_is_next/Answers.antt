use Rattle.pres_ring.proofs.Turns.{made_is_next}
use Rattle.pres_ring.proofs.laws.made_is_next.Goals as goal

pub returns : goal.returns
returns c = made_is_next
