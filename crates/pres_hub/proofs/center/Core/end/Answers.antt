use Rattle.std.proofs.Common.{◌∙◌, ap, subst, IfOk}
use Rattle.pres_hub.specs.Cores.{end_by}
use Rattle.pres_hub.specs.CoreTurns.{CarriesOn}
use Rattle.pres_hub.proofs.center.Core.end.Goals as goal

pub returns-clause-carries : goal.returns-clause-carries
returns-clause-carries g c =
    subst (λ i. IfOk c.event.result (λ _. CarriesOn g.K.Keeper.works g.K.Keeper.keeps i c.args.now c.args.self.now c.event.new.self)) (c.end_by.ensures.input ∙ ap (end_by c.args.why) c.in_ok-ended.ensures) c.event.ensures.carries
