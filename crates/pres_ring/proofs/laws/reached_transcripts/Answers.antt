use Rattle.pres_ring.proofs.LegalTranscripts.{reached_transcripts}
use Rattle.pres_ring.proofs.laws.reached_transcripts.Goals as goal

pub returns : goal.returns
returns c = reached_transcripts
