use Rattle.std.proofs.Common.{refl, subst}
use Rattle.pres_dispatch.specs.Dispatches.{Histories, Stands}
use Rattle.pres_dispatch.proofs.Standing.{some_goes, stands_struck}
use Rattle.pres_dispatch.proofs.dispatcher.Dispatcher.strike.Goals as goal

pub returns-clause-stands : goal.returns-clause-stands
returns-clause-stands g c =
    subst (λ x. (histories : Histories) → Stands g.K.Keeper.works g.K.Keeper.keeps histories x → Stands g.K.Keeper.works g.K.Keeper.keeps histories (record { run = c.self.inside.engine; lines = c.strike.new.self })) c.self.view_is
    (λ histories stands.
    stands_struck g.K.Keeper.works g.K.Keeper.keeps (record { run = c.self.inside.engine; lines = c.self.inside.lines }) (record { run = c.self.inside.engine; lines = c.strike.new.self }) refl histories c.args.session.now c.args.why c.strike.ensures.line stands)

pub invariant_of-self : goal.invariant_of-self
invariant_of-self g c =
    some_goes g.K.Keeper.works g.K.Keeper.keeps (record { run = c.self.inside.engine; lines = c.self.inside.lines }) (record { run = c.self.inside.engine; lines = c.strike.new.self }) (λ histories. histories)
    (λ histories stands.
    stands_struck g.K.Keeper.works g.K.Keeper.keeps (record { run = c.self.inside.engine; lines = c.self.inside.lines }) (record { run = c.self.inside.engine; lines = c.strike.new.self }) refl histories c.args.session.now c.args.why c.strike.ensures.line stands)
    c.self.invariant
