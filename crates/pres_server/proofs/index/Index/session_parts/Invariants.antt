-- the parts so far, and those of the sessions that are left, are those of all open sessions; so it is with their plans
use Rattle.std.proofs.Common.{◌≡◌, ◌++◌, map}
use Rattle.std.specs.List.{All}
use Rattle.pres_ids.specs.Ids.{ClientId}
use Rattle.pres_plan.specs.Plans.{IsPlan}
use Rattle.pres_server.specs.Sums.{OpenSession}
use Rattle.pres_server.specs.InternalSums.{open_of}
use Rattle.pres_server.specs.InternalBases.{session_part}
use Rattle.pres_server.proofs.index.Index.session_parts.Given as goal

abbrev pub invariant-loop-client : goal.invariant-loop-client
invariant-loop-client l =
    (l.made.items ++ map (session_part l.self.listeners) (map (λ e. (e.0, open_of e.1)) l.client-iterator) ≡ map (session_part l.self.listeners) (map (λ e. (e.0, open_of e.1)) l.self.places.live.entries))
    × (All (λ (e : ClientId × OpenSession). IsPlan e.1.plan) (map (λ e. (e.0, open_of e.1)) l.client-iterator) → All (λ (e : ClientId × OpenSession). IsPlan e.1.plan) (map (λ e. (e.0, open_of e.1)) l.self.places.live.entries))
