use Rattle.pres_ring.proofs.HistoriesTell.{opened_once}
use Rattle.pres_ring.proofs.laws.opened_once.Goals as goal

pub returns : goal.returns
returns c = opened_once
