use Rattle.std.proofs.Common.{◌≡◌, refl, true, IfSome, subst}
use Rattle.pres_server.specs.Sums.{is_open_in}
use Rattle.pres_keeper.specs.Engines.{Runs}
use Rattle.pres_ring.specs.Lines.{first_slow}
use Rattle.pres_dispatch.specs.Dispatches.{Histories, Stands}
use Rattle.pres_dispatch.proofs.Ended.{open_slow}
use Rattle.pres_dispatch.proofs.Standing.{some_goes, stands_slow}
use Rattle.pres_dispatch.proofs.dispatcher.Dispatcher.next_slow.Goals as goal

pub returns-clause-opened : goal.returns-clause-opened
returns-clause-opened g c =
    let server = c.self.inside.engine.server in
    subst (λ x. IfSome (first_slow x.lines) (λ s. Runs (λ t. is_open_in s t.sum ≡ true) server)) c.self.view_is
    (open_slow g.K.Keeper.works g.K.Keeper.keeps (record { run = c.self.inside.engine; lines = c.self.inside.lines }) c.self.invariant (first_slow c.self.inside.lines) c.next_slow.ensures.first)

pub returns-clause-stands : goal.returns-clause-stands
returns-clause-stands g c =
    subst (λ x. (histories : Histories) → Stands g.K.Keeper.works g.K.Keeper.keeps histories x → Stands g.K.Keeper.works g.K.Keeper.keeps histories (record { run = c.self.inside.engine; lines = c.next_slow.new.self })) c.self.view_is
    (λ histories stands.
    stands_slow g.K.Keeper.works g.K.Keeper.keeps (record { run = c.self.inside.engine; lines = c.self.inside.lines }) (record { run = c.self.inside.engine; lines = c.next_slow.new.self }) refl histories (first_slow c.self.inside.lines) c.next_slow.result
    c.next_slow.ensures.found c.next_slow.ensures.marked c.next_slow.ensures.none stands)

pub invariant_of-self : goal.invariant_of-self
invariant_of-self g c =
    some_goes g.K.Keeper.works g.K.Keeper.keeps (record { run = c.self.inside.engine; lines = c.self.inside.lines }) (record { run = c.self.inside.engine; lines = c.next_slow.new.self }) (λ histories. histories)
    (λ histories stands.
    stands_slow g.K.Keeper.works g.K.Keeper.keeps (record { run = c.self.inside.engine; lines = c.self.inside.lines }) (record { run = c.self.inside.engine; lines = c.next_slow.new.self }) refl histories (first_slow c.self.inside.lines) c.next_slow.result
    c.next_slow.ensures.found c.next_slow.ensures.marked c.next_slow.ensures.none stands)
    c.self.invariant
