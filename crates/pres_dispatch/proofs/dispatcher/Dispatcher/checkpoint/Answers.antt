use Rattle.std.proofs.Common.{◌≡◌, ◌⊎◌, refl, subst, IfOk, IfSome}
use Rattle.std.specs.Prelude.{MatchResult}
use Rattle.pres_server.specs.Histories.{begun_at}
use Rattle.pres_keeper.specs.Keepers.{Readable, whole}
use Rattle.pres_keeper.specs.Engines.{Runs}
use Rattle.pres_dispatch.specs.Dispatches.{Histories, Stands, histories_checkpointed}
use Rattle.pres_dispatch.proofs.Standing.{leads_of, stands_checkpointed, some_checkpointed, lasts_of, found_of}
use Rattle.pres_dispatch.proofs.dispatcher.Dispatcher.checkpoint.Goals as goal

pub invariant_of-self : goal.invariant_of-self
invariant_of-self g c =
    let call = c.checkpoint.ensures in
    some_checkpointed g.K.Keeper.works g.K.Keeper.keeps (record { run = c.self.inside.engine; lines = c.self.inside.lines }) (record { run = c.checkpoint.new.self; lines = c.self.inside.lines })
    call.worked call.server call.number refl c.checkpoint.result call.leads call.kept c.self.invariant

pub returns-clause-stands : goal.returns-clause-stands
returns-clause-stands g c =
    let call = c.checkpoint.ensures in
    subst (λ x. (histories : Histories) → Stands g.K.Keeper.works g.K.Keeper.keeps histories x
    → MatchResult c.checkpoint.result (λ done. Stands g.K.Keeper.works g.K.Keeper.keeps (histories_checkpointed histories x.run.server done) (record { run = c.checkpoint.new.self; lines = c.self.inside.lines }))
    (λ _. Stands g.K.Keeper.works g.K.Keeper.keeps histories (record { run = c.checkpoint.new.self; lines = c.self.inside.lines }))) c.self.view_is
    (stands_checkpointed g.K.Keeper.works g.K.Keeper.keeps (record { run = c.self.inside.engine; lines = c.self.inside.lines }) (record { run = c.checkpoint.new.self; lines = c.self.inside.lines })
    call.worked call.server call.number refl c.checkpoint.result call.leads call.kept)

pub returns-clause-durable : goal.returns-clause-durable
returns-clause-durable g c =
    subst (λ x. (histories : Histories) → Stands g.K.Keeper.works g.K.Keeper.keeps histories x
    → IfOk c.checkpoint.result (λ done. IfSome done (λ _. Runs (λ s. g.K.Keeper.outlasts c.checkpoint.new.self.keeper (begun_at s.sum)) x.run.server))) c.self.view_is
    (λ histories stands.
    lasts_of g.K.Keeper.works g.K.Keeper.keeps histories (record { run = c.self.inside.engine; lines = c.self.inside.lines }) c.checkpoint.result (λ s. g.K.Keeper.outlasts c.checkpoint.new.self.keeper (begun_at s.sum))
    (c.checkpoint.ensures.durable histories.kept (leads_of g.K.Keeper.works g.K.Keeper.keeps histories (record { run = c.self.inside.engine; lines = c.self.inside.lines }) stands)) stands)

pub returns-clause-found : goal.returns-clause-found
returns-clause-found g c =
    subst (λ x. (histories : Histories) → Stands g.K.Keeper.works g.K.Keeper.keeps histories x → (held : Readable) → g.K.Keeper.may_find c.checkpoint.new.self.keeper held
    → g.K.Keeper.may_find x.run.keeper held ⊎ Runs (λ s. held ≡ whole (begun_at s.sum)) x.run.server) c.self.view_is
    (λ histories stands held may.
    found_of g.K.Keeper.works g.K.Keeper.keeps histories (record { run = c.self.inside.engine; lines = c.self.inside.lines }) (g.K.Keeper.may_find c.self.inside.engine.keeper held) (λ s. held ≡ whole (begun_at s.sum))
    (λ k. c.checkpoint.ensures.found histories.kept (leads_of g.K.Keeper.works g.K.Keeper.keeps histories (record { run = c.self.inside.engine; lines = c.self.inside.lines }) stands) k held may) stands)
