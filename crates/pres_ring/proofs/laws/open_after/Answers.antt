use Rattle.pres_ring.proofs.OpenAfter.{open_after}
use Rattle.pres_ring.proofs.laws.open_after.Goals as goal

pub returns : goal.returns
returns c = open_after
