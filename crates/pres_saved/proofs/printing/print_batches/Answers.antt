use Rattle.std.proofs.Common.{◌≡◌, map, get_or, ap, subst, ◌∙◌}
use Rattle.std.specs.List.{AllByRecursion}
use Rattle.std.proofs.lemmas.List.{get_or_read, take_all}
use Rattle.pres_batch_rows.specs.RowContents.{saved_of}
use Rattle.pres_saved.specs.SqlKeepers.{saved_batch, IsReadBack}
use Rattle.pres_saved.proofs.Printed.{saved_more, back_more}
use Rattle.pres_saved.proofs.printing.print_batches.Goals as goal

pub loop-batch-preserved : goal.loop-batch-preserved
loop-batch-preserved c =
    let batches = c.args.batches.now in
    let at = c.loop-batch.batch-index in
    let b = c.batch-item.result in
    let there : b ≡ get_or batches at b = get_or_read batches at b c.loop-batch-test.true c.batch-item.is b in
    let was = c.loop-batch.invariant in (
      ap (map saved_of) c.in_ok-push.ensures.items ∙ saved_more batches at b c.loop-batch-test.true there c.loop-batch.rows.items c.in_ok-print_batch.field-0 was.0 c.in_ok-print_batch.ensures.saves,
      back_more batches at b c.loop-batch-test.true there was.1 c.in_ok-print_batch.ensures.back,
    )

pub returns-clause-save : goal.returns-clause-save
returns-clause-save c =
    let batches = c.args.batches.now in
    c.loop-batch.invariant.0 ∙ ap (map saved_batch) (take_all c.loop-batch.batch-index batches c.loop-batch-test.false)

pub returns-clause-back : goal.returns-clause-back
returns-clause-back c =
    let batches = c.args.batches.now in
    subst (AllByRecursion IsReadBack) (take_all c.loop-batch.batch-index batches c.loop-batch-test.false) c.loop-batch.invariant.1
