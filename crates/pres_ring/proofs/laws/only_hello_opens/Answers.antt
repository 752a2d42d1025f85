use Rattle.pres_ring.proofs.Turns.{only_hello_opens}
use Rattle.pres_ring.proofs.laws.only_hello_opens.Goals as goal

pub returns : goal.returns
returns c = only_hello_opens
