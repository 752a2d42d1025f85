use Rattle.pres_ring.proofs.TurnsBy.{made_is_next}
use Rattle.pres_ring.proofs.laws.made_is_next_by.Goals as goal

pub returns : goal.returns
returns c = made_is_next
