use Rattle.std.proofs.Common.{◌∙◌, sym, subst, take}
use Rattle.pres_log.specs.declared.entry.Batch.{Batch}
use Rattle.pres_server.specs.Sums.{Sum, sum_with, sum_from}
use Rattle.pres_server.specs.SumTurns.{FollowsSum}
use Rattle.pres_server.specs.Replays.{IsNotAdded}
use Rattle.pres_keeper.specs.Keepers.{base_sum}
use Rattle.pres_keeper.proofs.Resumed.{summed_further, follow_further, not_added}
use Rattle.pres_inspect.proofs.found.follow_all.Goals as goal

pub returns-in-Err-clause-refused : goal.returns-in-Err-clause-refused
returns-in-Err-clause-refused c =
    let bs = c.args.batches.now in
    let i = c.loop-batch.batch-index in
    not_added (base_sum c.args.base.now) bs i c.batch-item.result c.in-Err.fault c.loop-batch-test.true c.batch-item.is c.loop-batch.invariant.1
    (subst (λ (x : Sum × Batch). IsNotAdded x.0 x.1 c.in-Err.fault) (λ j. (c.loop-batch.invariant.0 j, c.in-Ok.ensures j)) c.in-Err.ensures.refused)

pub loop-batch-preserved : goal.loop-batch-preserved
loop-batch-preserved c =
    let base = base_sum c.args.base.now in
    let bs = c.args.batches.now in
    let i = c.loop-batch.batch-index in
    let b : Batch = c.batch-item.result in
    let follows : FollowsSum (sum_from base (take i bs)) b = subst (λ (x : Sum × Batch). FollowsSum x.0 x.1) (λ j. (c.loop-batch.invariant.0 j, c.in-Ok.ensures j)) c.in_default-add.ensures.follows in (
      c.in_default-add.ensures.added ∙ (λ j. sum_with (c.loop-batch.invariant.0 j) (c.in-Ok.ensures j)) ∙ sym (summed_further base bs i b c.loop-batch-test.true c.batch-item.is),
      follow_further base bs i b c.loop-batch-test.true c.batch-item.is c.loop-batch.invariant.1 follows,
    )
