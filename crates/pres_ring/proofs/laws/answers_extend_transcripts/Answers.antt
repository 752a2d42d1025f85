use Rattle.pres_ring.proofs.Answered.{answers_are_told}
use Rattle.pres_ring.proofs.laws.answers_extend_transcripts.Goals as goal

pub returns : goal.returns
returns c = answers_are_told
