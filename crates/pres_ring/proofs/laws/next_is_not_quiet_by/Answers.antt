use Rattle.pres_ring.proofs.TurnsBy.{next_is_not_quiet}
use Rattle.pres_ring.proofs.laws.next_is_not_quiet_by.Goals as goal

pub returns : goal.returns
returns c = next_is_not_quiet
