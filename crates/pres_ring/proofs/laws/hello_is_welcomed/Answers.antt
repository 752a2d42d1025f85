use Rattle.pres_ring.proofs.Welcomed.{hello_is_welcomed}
use Rattle.pres_ring.proofs.laws.hello_is_welcomed.Goals as goal

pub returns : goal.returns
returns c = hello_is_welcomed
