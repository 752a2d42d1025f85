use Rattle.std.proofs.Common.{◌≡◌, ◌∙◌, ap, true, false, subst, IfSome, IfNone}
use Rattle.pres_ids.specs.Ids.{ClientId}
use Rattle.pres_server.specs.ServerStates.{first_client}
use Rattle.pres_server.specs.Sums.{has_open_in}
use Rattle.pres_server.specs.SumStates.{SumState}
use Rattle.pres_server.proofs.SumServers.{first_opens, none_opens}
use Rattle.pres_server.proofs.server.Server.first_open.Goals as goal

pub returns-clause-first : goal.returns-clause-first
returns-clause-first c = c.first.ensures ∙ ap (λ (x : SumState). first_client x.heard) c.self.view_is

pub returns-clause-open : goal.returns-clause-open
returns-clause-open c =
    let inside = c.self.inside in
    subst (λ (x : SumState). IfSome c.first.result (λ k. has_open_in k.now x.sum ≡ true)) c.self.view_is (first_opens inside.batches inside.moment inside.number inside.index c.first.result c.first.ensures)

pub returns-clause-none : goal.returns-clause-none
returns-clause-none c =
    let inside = c.self.inside in
    subst (λ (x : SumState). IfNone c.first.result ((k : ClientId) → has_open_in k x.sum ≡ false)) c.self.view_is (none_opens inside.batches inside.moment inside.number inside.index c.first.result c.first.ensures)
