use Rattle.pres_ring.proofs.Turns.{hello_is_not_quiet}
use Rattle.pres_ring.proofs.laws.hello_is_not_quiet.Goals as goal

pub returns : goal.returns
returns c = hello_is_not_quiet
