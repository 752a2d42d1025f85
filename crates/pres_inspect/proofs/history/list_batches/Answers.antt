use Rattle.std.proofs.Common.{◌≡◌, ◌+◌, ◌++◌, take, sym, subst, ◌∙◌}
use Rattle.std.proofs.lemmas.List.{take_all}
use Rattle.std.specs.Io.KnownBytes.{Appends}
use Rattle.pres_inspect.specs.Reports.{batch_text, log_text}
use Rattle.pres_inspect.proofs.Printing.{appends_more, log_more, nothing_more}
use Rattle.pres_inspect.proofs.history.list_batches.Goals as goal

pub loop-batch-init : goal.loop-batch-init
loop-batch-init g c = nothing_more (g.W.Write.contents c.args.output.now)

pub loop-batch-preserved : goal.loop-batch-preserved
loop-batch-preserved g c =
    let l = c.loop-batch in
    let from = c.args.from in
    let bs = c.args.batches.now in
    let i = l.batch-index in
    let b = c.batch-item.result in
    let before = g.W.Write.contents c.args.output.now in
    let mid = g.W.Write.contents l.output in
    let after = g.W.Write.contents c.put.new.output in
    let lines : c.as_slice.result.now ≡ batch_text from b = c.as_slice.ensures.value ∙ c.in_ok-lines.ensures in
    let more : log_text from (take (i + 1) bs) ≡ log_text from (take i bs) ++ batch_text from b = log_more from bs i b c.loop-batch-test.true c.batch-item.is in
    subst (Appends before after) (sym more)
    (appends_more before mid after (log_text from (take i bs)) (batch_text from b) l.invariant (subst (Appends mid after) lines c.in_ok-put.ensures.ok))

pub returns-clause-listed : goal.returns-clause-listed
returns-clause-listed g c =
    let l = c.loop-batch in
    subst (λ bs. Appends (g.W.Write.contents c.args.output.now) (g.W.Write.contents l.output) (log_text c.args.from bs))
    (take_all l.batch-index c.args.batches.now c.loop-batch-test.false) l.invariant
