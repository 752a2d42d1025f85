use Rattle.pres_ring.proofs.HistoriesTell.{open_begins}
use Rattle.pres_ring.proofs.laws.open_begins.Goals as goal

pub returns : goal.returns
returns c = open_begins
