use Rattle.std.proofs.Common.{◌≡◌, false, subst}
use Rattle.pres_ids.specs.declared.id.SessionId.{SessionId}
use Rattle.pres_server.specs.Sums.{is_open_in}
use Rattle.pres_keeper.specs.Engines.{Runs}
use Rattle.pres_dispatch.proofs.Closed.{none_open}
use Rattle.pres_dispatch.proofs.dispatcher.first_open.Goals as goal

pub returns-in_default-first_open-clause-none : goal.returns-in_default-first_open-clause-none
returns-in_default-first_open-clause-none g c =
    subst (Runs (λ s. (t : SessionId) → is_open_in t s.sum ≡ false)) c.in-Some.ensures (none_open c.in-Some.server.now.sum c.in_default-first_open.ensures.none)
