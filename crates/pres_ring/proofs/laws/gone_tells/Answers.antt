use Rattle.pres_ring.proofs.OpenAfter.{gone_tells}
use Rattle.pres_ring.proofs.laws.gone_tells.Goals as goal

pub returns : goal.returns
returns c = gone_tells
