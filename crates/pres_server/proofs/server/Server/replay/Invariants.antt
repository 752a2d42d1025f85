use Rattle.std.proofs.Common.{◌≡◌, take}
use Rattle.pres_server.specs.Sums.{nothing, sum_from}
use Rattle.pres_server.specs.SumTurns.{FollowAll}
use Rattle.pres_server.proofs.server.Server.replay.Given as goal

-- the batches so far follow one after another, and make the replay's sum
abbrev pub invariant-loop-batch : goal.invariant-loop-batch
invariant-loop-batch l = (l.replay ≡ sum_from nothing (take l.batch-index l.batches)) × FollowAll nothing (take l.batch-index l.batches)
