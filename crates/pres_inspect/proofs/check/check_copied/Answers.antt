use Rattle.std.proofs.Common.{inr, ap, subst, ◌∙◌}
use Rattle.std.proofs.lemmas.Result.{IfErr-weaker, on_ok_weaker}
use Rattle.std.specs.Io.KnownBytes.{Appends}
use Rattle.pres_inspect.specs.Copies.{image_of}
use Rattle.pres_inspect.specs.Reports.{state_text}
use Rattle.pres_inspect.proofs.Flaws.{no_row, told_refusal}
use Rattle.pres_inspect.proofs.check.check_copied.Goals as goal

pub returns-in-Err-clause-refused : goal.returns-in-Err-clause-refused
returns-in-Err-clause-refused g c =
    told_refusal (image_of c.args.copied) c.in-Err.fault c.tell_flaw.result c.tell_flaw.ensures.same c.in-Err.ensures.refused

pub returns-clause-checked : goal.returns-clause-checked
returns-clause-checked g c =
    let before = g.W.Write.contents c.args.output.now in
    let after = g.W.Write.contents c.put.new.output in
    let sum = c.in-Ok.found.server.sum in
    let it = c.in-Ok.ensures.held in
    on_ok_weaker c.put.result
    (λ printed. record {
      history = it.history;
      sum = sum;
      held = it.held.0;
      leads = it.leads;
      printed = subst (Appends before after) (c.as_bytes.ensures.value ∙ c.in_ok-text.ensures ∙ ap (λ checkpoint. state_text checkpoint sum) it.held.1) printed;
    }) c.put.ensures.ok

pub returns-clause-refused : goal.returns-clause-refused
returns-clause-refused g c = IfErr-weaker c.put.result _ _ (λ e is. no_row (image_of c.args.copied) e (inr is)) c.put.ensures.err

pub returns-clause-told : goal.returns-clause-told
returns-clause-told g c = IfErr-weaker c.put.result _ _ (λ e is other. absurd (other is)) c.put.ensures.err
