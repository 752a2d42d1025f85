use Rattle.pres_ring.proofs.HistoriesTell.{gone_tells}
use Rattle.pres_ring.proofs.laws.gone_tells_in.Goals as goal

pub returns : goal.returns
returns c = gone_tells
