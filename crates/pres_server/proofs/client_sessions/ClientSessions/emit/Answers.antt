use Rattle.std.proofs.Common.{arith}
use Rattle.std.proofs.lemmas.Grind.{common_steps}
use Rattle.pres_server.proofs.client_sessions.ClientSessions.emit.Goals as goal

pub returns-clause-live : goal.returns-clause-live
returns-clause-live c = grind (arith, common_steps)
