use Rattle.pres_ring.proofs.HistoriesTell.{answers_extend}
use Rattle.pres_ring.proofs.laws.answers_extend_transcripts_in.Goals as goal

pub returns : goal.returns
returns c = answers_extend
