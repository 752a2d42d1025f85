use Rattle.pres_ring.proofs.BeginsIn.{taken_in_order}
use Rattle.pres_ring.proofs.laws.taken_in_order.Goals as goal

pub returns : goal.returns
returns c = taken_in_order
