use Rattle.pres_ring.proofs.TurnsBy.{hello_is_not_quiet}
use Rattle.pres_ring.proofs.laws.hello_is_not_quiet_by.Goals as goal

pub returns : goal.returns
returns c = hello_is_not_quiet
