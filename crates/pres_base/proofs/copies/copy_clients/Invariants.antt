use Rattle.std.proofs.Common.{◌≡◌, take}
use Rattle.pres_base.proofs.copies.copy_clients.Given as goal

abbrev pub invariant-loop-client : goal.invariant-loop-client
invariant-loop-client l = l.made.items ≡ take l.client-index l.clients
