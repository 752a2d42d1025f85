use Rattle.std.proofs.Common.{◌≡◌, take}
use Rattle.pres_server.specs.Sums.{sum_from}
use Rattle.pres_server.specs.SumTurns.{FollowAll}
use Rattle.pres_keeper.proofs.memory.finished.Given as goal

-- the batches so far follow one after another, and make the replay's sum
abbrev pub invariant-loop-batch : goal.invariant-loop-batch
invariant-loop-batch l = (l.replay ≡ sum_from l.fn.replay (take l.batch-index l.batches)) × FollowAll l.fn.replay (take l.batch-index l.batches)
