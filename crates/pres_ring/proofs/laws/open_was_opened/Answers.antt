use Rattle.pres_ring.proofs.HistoriesTell.{open_was_opened}
use Rattle.pres_ring.proofs.laws.open_was_opened.Goals as goal

pub returns : goal.returns
returns c = open_was_opened
