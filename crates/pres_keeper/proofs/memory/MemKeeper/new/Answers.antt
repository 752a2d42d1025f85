use Rattle.pres_keeper.proofs.Nulls.{nothing_base}
use Rattle.pres_keeper.proofs.memory.MemKeeper.new.Goals as goal

pub invariant_of-result : goal.invariant_of-result
invariant_of-result c = nothing_base
