use Rattle.pres_ring.proofs.Turns.{next_is_not_quiet}
use Rattle.pres_ring.proofs.laws.next_is_not_quiet.Goals as goal

pub returns : goal.returns
returns c = next_is_not_quiet
