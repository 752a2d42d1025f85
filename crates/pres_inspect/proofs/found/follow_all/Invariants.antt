use Rattle.std.proofs.Common.{◌≡◌, take}
use Rattle.pres_keeper.specs.Keepers.{base_sum}
use Rattle.pres_server.specs.Sums.{sum_from}
use Rattle.pres_server.specs.SumTurns.{FollowAll}
use Rattle.pres_inspect.proofs.found.follow_all.Given as goal

-- the batches so far follow one after another, and make the replay's sum
abbrev pub invariant-loop-batch : goal.invariant-loop-batch
invariant-loop-batch l =
    (l.replay ≡ sum_from (base_sum l.fn.base) (take l.batch-index l.batches)) × FollowAll (base_sum l.fn.base) (take l.batch-index l.batches)
