use Rattle.pres_ring.proofs.LegalTranscripts.{legal_begins}
use Rattle.pres_ring.proofs.laws.legal_begins.Goals as goal

pub returns : goal.returns
returns c = legal_begins
