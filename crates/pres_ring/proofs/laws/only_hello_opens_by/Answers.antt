use Rattle.pres_ring.proofs.TurnsBy.{only_hello_opens}
use Rattle.pres_ring.proofs.laws.only_hello_opens_by.Goals as goal

pub returns : goal.returns
returns c = only_hello_opens
