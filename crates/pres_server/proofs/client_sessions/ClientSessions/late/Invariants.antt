-- the clients that were passed aren't late
use Rattle.std.proofs.Common.{◌≡◌, map}
use Rattle.pres_server.specs.ServerStates.{late_client}
use Rattle.pres_server.proofs.client_sessions.ClientSessions.late.Given as goal

abbrev pub invariant-loop-client : goal.invariant-loop-client
invariant-loop-client l = late_client l.moment (map (λ e. (e.0, e.1.heard)) l.self.live.entries) ≡ late_client l.moment (map (λ e. (e.0, e.1.heard)) l.client-iterator)
