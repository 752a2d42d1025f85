use Rattle.std.proofs.Common.{sym, subst, refl}
use Rattle.pres_keeper.specs.EngineTurns.{MakesBatch, history_turned}
use Rattle.pres_dispatch.specs.Dispatches.{Histories, Stands, histories_turned}
use Rattle.pres_dispatch.proofs.Standing.{with_told_at, some_goes, stands_answered, stands_refused, kept_of, leads_of, refused_with}
use Rattle.pres_dispatch.proofs.dispatcher.Dispatcher.turn.Goals as goal

pub deliver-requires : goal.deliver-requires
deliver-requires g c = record {
  told = with_told_at g.K.Keeper.works g.K.Keeper.keeps (record { run = c.self.inside.engine; lines = c.self.inside.lines }) c.turn.new.self.server c.args.input c.args.now c.in_ok-answers.answers c.requires c.self.invariant c.in_ok-answers.ensures.turned;
}

pub invariant_of-self : goal.invariant_of-self
invariant_of-self g c =
    some_goes g.K.Keeper.works g.K.Keeper.keeps (record { run = c.self.inside.engine; lines = c.self.inside.lines }) (record { run = c.turn.new.self; lines = c.self.inside.lines }) (λ histories. histories)
    (λ histories stands.
    stands_refused g.K.Keeper.works g.K.Keeper.keeps (record { run = c.self.inside.engine; lines = c.self.inside.lines }) (record { run = c.turn.new.self; lines = c.self.inside.lines }) c.turn.ensures.worked histories c.args.input c.args.now c.in_err-answers.field-0.0
    c.in_err-answers.ensures.refused (c.in_err-answers.ensures.kept histories.kept) c.in_err-answers.ensures.stays (λ t. refl) stands)
    c.self.invariant

pub invariant_of-self-2 : goal.invariant_of-self-2
invariant_of-self-2 g c =
    some_goes g.K.Keeper.works g.K.Keeper.keeps (record { run = c.self.inside.engine; lines = c.self.inside.lines }) (record { run = c.turn.new.self; lines = c.deliver.new.self }) (λ histories. histories_turned histories c.self.inside.engine.server c.args.input c.args.now)
    (λ histories stands.
    stands_answered g.K.Keeper.works g.K.Keeper.keeps (record { run = c.self.inside.engine; lines = c.self.inside.lines }) (record { run = c.turn.new.self; lines = c.deliver.new.self }) c.turn.ensures.worked histories c.args.input c.args.now c.in_ok-answers.answers c.requires
    c.in_ok-answers.ensures.turned (c.in_ok-answers.ensures.leads histories.kept) (c.in_ok-answers.ensures.kept histories.kept) c.number.ensures.counted c.deliver.ensures.delivered stands)
    c.self.invariant

pub returns-clause-stands : goal.returns-clause-stands
returns-clause-stands g c =
    subst (λ x. (histories : Histories) → Stands g.K.Keeper.works g.K.Keeper.keeps histories x
    → Stands g.K.Keeper.works g.K.Keeper.keeps (histories_turned histories x.run.server c.args.input c.args.now) (record { run = c.turn.new.self; lines = c.deliver.new.self })) c.self.view_is
    (λ histories stands.
    stands_answered g.K.Keeper.works g.K.Keeper.keeps (record { run = c.self.inside.engine; lines = c.self.inside.lines }) (record { run = c.turn.new.self; lines = c.deliver.new.self }) c.turn.ensures.worked histories c.args.input c.args.now c.in_ok-answers.answers c.requires
    c.in_ok-answers.ensures.turned (c.in_ok-answers.ensures.leads histories.kept) (c.in_ok-answers.ensures.kept histories.kept) c.number.ensures.counted c.deliver.ensures.delivered stands)

pub returns-clause-durable : goal.returns-clause-durable
returns-clause-durable g c =
    subst (λ x. (histories : Histories) → Stands g.K.Keeper.works g.K.Keeper.keeps histories x → MakesBatch x.run.server c.args.input c.args.now
    → g.K.Keeper.outlasts c.turn.new.self.keeper (history_turned histories.kept x.run.server c.args.input c.args.now)) c.self.view_is
    (λ histories stands made.
    c.in_ok-answers.ensures.durable histories.kept (leads_of g.K.Keeper.works g.K.Keeper.keeps histories (record { run = c.self.inside.engine; lines = c.self.inside.lines }) stands)
    (kept_of g.K.Keeper.works g.K.Keeper.keeps histories (record { run = c.self.inside.engine; lines = c.self.inside.lines }) c.args.input c.args.now made stands) made)

pub returns-in_err-answers-clause-stands : goal.returns-in_err-answers-clause-stands
returns-in_err-answers-clause-stands g c = λ histories stands.
    refused_with c.from_residual.result c.in_err-answers.field-0.0 _ _ c.from_residual.ensures.1
    (stands_refused g.K.Keeper.works g.K.Keeper.keeps (record { run = c.self.inside.engine; lines = c.self.inside.lines }) (record { run = c.turn.new.self; lines = c.self.inside.lines }) c.turn.ensures.worked histories c.args.input c.args.now c.in_err-answers.field-0.0
    c.in_err-answers.ensures.refused (c.in_err-answers.ensures.kept histories.kept) c.in_err-answers.ensures.stays (λ t. refl) (subst (Stands g.K.Keeper.works g.K.Keeper.keeps histories) (sym c.self.view_is) stands))
