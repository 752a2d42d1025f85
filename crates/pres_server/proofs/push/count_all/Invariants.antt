use Rattle.std.proofs.Common.{◌≡◌}
use Rattle.pres_ids.specs.Ids.{ClientId}
use Rattle.pres_server.specs.InternalPushes.{standing, after_pushes, MayPushAll}
use Rattle.pres_server.proofs.push.count_all.Given as goal

abbrev pub invariant-loop-reached : goal.invariant-loop-reached
invariant-loop-reached l =
    MayPushAll (standing l.places) l.reached-iterator.rest.items
    × ((c : ClientId) → after_pushes (standing l.places) l.reached-iterator.rest.items c ≡ after_pushes (standing l.initial.places) l.fn.touched.items c)
    × (l.places.gone ≡ l.initial.places.gone)
