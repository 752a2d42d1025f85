-- with the clients that are left, the stamps are those of all clients
use Rattle.std.proofs.Common.{◌≡◌, map, None}
use Rattle.std.specs.BTreeMap.{get, IsOrdered}
use Rattle.pres_ids.specs.Ids.{ClientId, client_cmp}
use Rattle.pres_server.proofs.Resumed.{told}
use Rattle.pres_server.proofs.client_sessions.ClientSessions.lasts.Given as goal

abbrev pub invariant-loop-client : goal.invariant-loop-client
invariant-loop-client l = ((c : ClientId) → told l.client-iterator c (get client_cmp l.lasts c) ≡ told l.self.gone.entries c None) × IsOrdered client_cmp l.lasts

abbrev pub invariant-loop-id : goal.invariant-loop-id
invariant-loop-id l =
    ((c : ClientId) → told (map (λ e. (e.0, e.1.stamp)) l.id-iterator) c (get client_cmp l.lasts c) ≡ told (map (λ e. (e.0, e.1.stamp)) l.self.live.entries) c (told l.self.gone.entries c None))
    × IsOrdered client_cmp l.lasts
