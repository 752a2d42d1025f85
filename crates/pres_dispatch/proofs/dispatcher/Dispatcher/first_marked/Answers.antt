use Rattle.std.proofs.Common.{◌≡◌, true, IfSome, subst}
use Rattle.pres_server.specs.Sums.{is_open_in}
use Rattle.pres_keeper.specs.Engines.{Runs}
use Rattle.pres_ring.specs.Lines.{first_marked}
use Rattle.pres_dispatch.proofs.Ended.{open_marked}
use Rattle.pres_dispatch.proofs.dispatcher.Dispatcher.first_marked.Goals as goal

pub returns-clause-open : goal.returns-clause-open
returns-clause-open g c =
    subst (λ x. IfSome (first_marked x.lines) (λ e. Runs (λ t. is_open_in e.0 t.sum ≡ true) x.run.server)) c.self.view_is
    (open_marked g.K.Keeper.works g.K.Keeper.keeps (record { run = c.self.inside.engine; lines = c.self.inside.lines }) c.self.invariant (first_marked c.self.inside.lines) c.first_marked.ensures.first)
