use Rattle.std.proofs.Common.{[]}
use Rattle.pres_client_connection.specs.DrivenClients.{Drives}
use Rattle.pres_client_connection.proofs.drive.follow.Given as goal

abbrev pub invariant-reads : goal.invariant-reads
invariant-reads g l = Drives l.fn.client [] l.client (g.W.Write.contents l.fn.output) (g.W.Write.contents l.output)
