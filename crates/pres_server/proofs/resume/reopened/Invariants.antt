-- the sessions so far, and those that are left, are all of them
use Rattle.std.proofs.Common.{◌≡◌, None}
use Rattle.std.specs.BTreeMap.{get, IsOrdered}
use Rattle.pres_ids.specs.Ids.{ClientId, client_cmp}
use Rattle.pres_server.specs.InternalBases.{live_in}
use Rattle.pres_server.proofs.Resumed.{told, Opens}
use Rattle.pres_server.proofs.resume.reopened.Given as goal

abbrev pub invariant-loop-part : goal.invariant-loop-part
invariant-loop-part l =
    Opens l.fn.sessions l.part-iterator.rest.items l.listeners
    × ((c : ClientId) → told (live_in l.moment l.part-iterator.rest.items) c (get client_cmp l.live c) ≡ told (live_in l.moment l.fn.sessions) c None)
    × IsOrdered client_cmp l.live
