use Rattle.pres_ring.proofs.HistoriesTell.{transcripts_begin}
use Rattle.pres_ring.proofs.laws.transcripts_begin.Goals as goal

pub returns : goal.returns
returns c = transcripts_begin
