use Rattle.std.proofs.Common.{◌∙◌, ap, subst}
use Rattle.pres_dispatch.proofs.Started.{server_is, started}
use Rattle.pres_dispatch.proofs.dispatcher.Dispatcher.start.Goals as goal

pub returns-clause-ended : goal.returns-clause-ended
returns-clause-ended g c = λ history works keeps.
    let before = c.in_ok-engine.engine in
    let after = c.end_all.new.engine in
    let opened = c.in_ok-engine.ensures in
    let works_after = subst (λ x. g.K.Keeper.works x.run.keeper) c.of.ensures.dispatcher works in
    let works_before = c.end_all.ensures.worked works_after in
    let leads = opened.exact history works_before keeps in
    started g.K.Keeper.works g.K.Keeper.keeps c.args.now before after c.of.result history c.of.ensures.dispatcher (server_is history before.server opened.runs opened.made leads)
    (c.in_default.ensures.kept history leads works_after (opened.left history keeps works_before)) c.of.ensures.stands

pub returns-clause-base : goal.returns-clause-base
returns-clause-base g c = λ history works keeps.
    let is = ap (λ x. x.run.base_number) c.of.ensures.dispatcher in
    let works_before = c.end_all.ensures.worked (subst (λ x. g.K.Keeper.works x.run.keeper) c.of.ensures.dispatcher works) in
    is ∙ c.end_all.ensures.base ∙ c.in_ok-engine.ensures.base history works_before keeps
