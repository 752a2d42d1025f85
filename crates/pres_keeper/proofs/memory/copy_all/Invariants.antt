use Rattle.std.proofs.Common.{◌≡◌, take}
use Rattle.pres_keeper.proofs.memory.copy_all.Given as goal

-- the first ones are copied
abbrev pub invariant-loop-batch : goal.invariant-loop-batch
invariant-loop-batch l = l.copies.items ≡ take l.batch-index l.batches
