use Rattle.pres_ring.proofs.HistoriesTell.{open_after}
use Rattle.pres_ring.proofs.laws.open_after_in.Goals as goal

pub returns : goal.returns
returns c = open_after
