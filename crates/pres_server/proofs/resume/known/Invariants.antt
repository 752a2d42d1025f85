-- the clients so far, and those that are left, are all of them
use Rattle.std.proofs.Common.{◌≡◌, None}
use Rattle.std.specs.BTreeMap.{get, IsOrdered}
use Rattle.pres_ids.specs.Ids.{ClientId, client_cmp}
use Rattle.pres_server.specs.InternalBases.{lasts_in}
use Rattle.pres_server.proofs.Resumed.{told, Knows}
use Rattle.pres_server.proofs.resume.known.Given as goal

abbrev pub invariant-loop-client : goal.invariant-loop-client
invariant-loop-client l =
    Knows l.fn.clients l.client-iterator.rest.items l.retry
    × ((c : ClientId) → told (lasts_in l.client-iterator.rest.items) c (get client_cmp l.gone c) ≡ told (lasts_in l.fn.clients) c None)
    × IsOrdered client_cmp l.gone
