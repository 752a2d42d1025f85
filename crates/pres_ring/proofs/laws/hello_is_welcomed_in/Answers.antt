use Rattle.pres_ring.proofs.WelcomedBy.{hello_is_welcomed}
use Rattle.pres_ring.proofs.laws.hello_is_welcomed_in.Goals as goal

pub returns : goal.returns
returns c = hello_is_welcomed
