use Rattle.std.proofs.lemmas.Result.{IfErr-weaker, on_ok_weaker}
use Rattle.pres_inspect.specs.Copies.{end_of, history_of, image_of}
use Rattle.pres_inspect.proofs.Flaws.{no_row}
use Rattle.pres_inspect.proofs.history.history_of.Goals as goal

pub returns-clause-listed : goal.returns-clause-listed
returns-clause-listed g c =
    let history = history_of c.in_ok-found.found in
    on_ok_weaker c.list-listed.result
    (λ printed. record {
      history = history;
      sum = end_of history;
      held = c.in_ok-found.ensures.held;
      leads = c.in_ok-found.ensures.leads;
      printed = printed;
    }) c.list-listed.ensures.listed

pub returns-clause-refused : goal.returns-clause-refused
returns-clause-refused g c = IfErr-weaker c.list-listed.result _ _ (λ e refused. no_row (image_of c.args.copied) e refused) c.list-listed.ensures.err
