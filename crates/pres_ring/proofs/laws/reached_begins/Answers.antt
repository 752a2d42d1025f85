use Rattle.pres_ring.proofs.LegalTranscripts.{reached_begins}
use Rattle.pres_ring.proofs.laws.reached_begins.Goals as goal

pub returns : goal.returns
returns c = reached_begins
