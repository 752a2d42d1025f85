use Rattle.std.proofs.Common.{◌≡◌, ◌-◌, ◌^◌}
use Rattle.pres_dispatch.proofs.Since.{RestartedSince}
use Rattle.pres_dispatch.proofs.dispatcher.end_all.Given as goal

-- what is ended from now on is ended from the beginning on, and the keeper holds what was made
abbrev pub invariant-loop-client : goal.invariant-loop-client
invariant-loop-client g l = (g.K.Keeper.works l.engine.keeper → g.K.Keeper.works l.fn.engine.keeper) × RestartedSince g.K.Keeper.works g.K.Keeper.keeps l.now l.fn.engine l.engine × (l.engine.base_number ≡ l.fn.engine.base_number)

abbrev pub decreases-loop-client : goal.decreases-loop-client
decreases-loop-client g l = 2 ^ 52 - l.engine.number
