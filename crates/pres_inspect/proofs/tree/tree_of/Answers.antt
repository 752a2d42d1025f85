use Rattle.std.proofs.Common.{inr, subst, ◌∙◌}
use Rattle.std.proofs.lemmas.Result.{IfErr-weaker, on_ok_weaker}
use Rattle.std.specs.Io.KnownBytes.{Appends}
use Rattle.pres_inspect.specs.Copies.{image_of}
use Rattle.pres_inspect.proofs.Flaws.{no_row}
use Rattle.pres_inspect.proofs.tree.tree_of.Goals as goal

pub returns-clause-shown : goal.returns-clause-shown
returns-clause-shown g c =
    let before = g.W.Write.contents c.args.output.now in
    let after = g.W.Write.contents c.put.new.output in
    let it = c.in_ok-found.ensures.held in
    on_ok_weaker c.put.result
    (λ printed. record {
      history = it.history;
      sum = c.in_ok-found.found.server.sum;
      held = it.held.0;
      leads = it.leads;
      printed = subst (Appends before after) (c.as_slice.ensures.value ∙ c.in_ok-line.ensures) printed;
    }) c.put.ensures.ok

pub returns-clause-refused : goal.returns-clause-refused
returns-clause-refused g c = IfErr-weaker c.put.result _ _ (λ e is. no_row (image_of c.args.copied) e (inr is)) c.put.ensures.err
