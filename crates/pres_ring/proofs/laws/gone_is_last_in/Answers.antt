use Rattle.pres_ring.proofs.HistoriesTell.{gone_is_last}
use Rattle.pres_ring.proofs.laws.gone_is_last_in.Goals as goal

pub returns : goal.returns
returns c = gone_is_last
