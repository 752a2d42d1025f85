use Rattle.pres_ring.proofs.LegalTranscripts.{legal_transcripts}
use Rattle.pres_ring.proofs.laws.legal_transcripts.Goals as goal

pub returns : goal.returns
returns c = legal_transcripts
