use Rattle.std.proofs.Common.{ap, subst, ◌∙◌}
use Rattle.std.proofs.lemmas.Result.{on_ok_weaker}
use Rattle.std.specs.Io.KnownBytes.{Appends}
use Rattle.pres_inspect.specs.Copies.{checkpoint_in, history_of}
use Rattle.pres_inspect.specs.Reports.{checkpoint_line, log_text}
use Rattle.pres_inspect.proofs.Printing.{appends_more}
use Rattle.pres_inspect.proofs.history.list.Goals as goal

pub returns-clause-listed : goal.returns-clause-listed
returns-clause-listed g c =
    let from = c.args.from in
    let history = history_of c.args.found.now in
    let before = g.W.Write.contents c.args.output.now in
    let mid = g.W.Write.contents c.put.new.output in
    let after = g.W.Write.contents c.list_batches.new.output in
    let line = c.as_bytes.ensures.value ∙ c.in_ok-line.ensures ∙ ap (checkpoint_line from) c.of.ensures in
    on_ok_weaker c.list_batches.result
    (λ listed. appends_more before mid after (checkpoint_line from (checkpoint_in history.base)) (log_text from history.log)
    (subst (Appends before mid) line c.in_ok-put.ensures.ok) (subst (λ log. Appends mid after (log_text from log)) c.as_slice.ensures.value listed))
    c.list_batches.ensures.listed
