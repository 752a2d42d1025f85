use Rattle.std.proofs.Common.{◌∙◌, ap, subst}
use Rattle.pres_server.specs.Replays.{resumed, IsNotAdded}
use Rattle.pres_server.specs.Sums.{sum_from}
use Rattle.pres_world.proofs.Bases.{next_follows, one_added, all_added}
use Rattle.pres_world.proofs.server_side.finished.Goals as goal

pub unreachable-requires : goal.unreachable-requires
unreachable-requires c =
    let refused = subst (IsNotAdded c.loop-batch.replay c.in-Ok.batch) c.in-Err-NotLegal.field-0-is c.in-Err-NotLegal.ensures.refused in
    refused.0 (next_follows c.loop-batch.replay c.args.batches.now c.loop-batch.batch-index c.batch-item.result c.in-Ok.batch c.loop-batch-test.true c.batch-item.is c.in-Ok.ensures c.loop-batch.invariant.1)

pub loop-batch-preserved : goal.loop-batch-preserved
loop-batch-preserved c =
    one_added c.loop-batch.replay c.add.new.self (sum_from c.args.replay c.args.batches.now) c.args.batches.now c.loop-batch.batch-index c.batch-item.result c.in-Ok.batch c.loop-batch-test.true c.batch-item.is c.in-Ok.ensures
    c.in-Ok-add.ensures.added c.loop-batch.invariant

pub returns-clause-made : goal.returns-clause-made
returns-clause-made c =
    c.finish.ensures.server ∙ ap resumed (all_added c.loop-batch.replay (sum_from c.args.replay c.args.batches.now) c.args.batches.now c.loop-batch.batch-index c.loop-batch-test.false c.loop-batch.invariant.0)
