use Rattle.std.proofs.Common.{◌≡◌, drop}
use Rattle.pres_server.specs.Sums.{sum_from}
use Rattle.pres_server.specs.SumTurns.{FollowAll}
use Rattle.pres_world.proofs.server_side.finished.Given as goal

-- with the batches that are left it makes what all make, and these may follow
abbrev pub invariant-loop-batch : goal.invariant-loop-batch
invariant-loop-batch l = (sum_from l.replay (drop l.batch-index l.batches) ≡ sum_from l.fn.replay l.batches) × FollowAll l.replay (drop l.batch-index l.batches)
