use Rattle.pres_ring.proofs.HistoriesTell.{answers_begin}
use Rattle.pres_ring.proofs.laws.answers_begin.Goals as goal

pub returns : goal.returns
returns c = answers_begin
