use Rattle.std.proofs.Common.{◌≡◌, ◌-◌, ◌^◌, ◌++◌, List}
use Rattle.pres_ids.specs.Ids.{ClientId}
use Rattle.pres_history.specs.ServerStates.{ServerState}
use Rattle.pres_world.specs.ServerSides.{HasLog, EndsAll}
use Rattle.pres_world.proofs.server_side.end_all.Given as goal

-- the server is that of the log from before with the batches of the ends, and what ends from now on ends from the beginning on
abbrev pub invariant-loop-ended : goal.invariant-loop-ended
invariant-loop-ended l =
    (s : ServerState) → HasLog l.fn.server s
    → (u : ServerState) × HasLog l.server u × (u.log ≡ s.log ++ l.ended.items)
    × ((cs : List ClientId) (t : ServerState) → EndsAll l.now cs u t → (all : List ClientId) × EndsAll l.now all s t)

abbrev pub decreases-loop-ended : goal.decreases-loop-ended
decreases-loop-ended l = 2 ^ 52 - l.server.sum.number
