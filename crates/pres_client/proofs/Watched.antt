-- What is received for the paths that are listened to.
use Rattle.std.proofs.Common.{ℕ, ◌≡◌, ◌++◌, List, [], ◌∷◌, refl}
use Rattle.pres_tree.specs.Paths.{Path}
use Rattle.pres_wire.specs.declared.up.Up.{Up}
use Rattle.pres_client_state.specs.declared.notice.Notice.{Notice}
use Rattle.pres_client_state.specs.declared.queued.Queued.{Queued}
use Rattle.pres_client_state.specs.Watches.{Watches, with_watch, fresh}
use Rattle.pres_client.specs.Clients.{ClientState}
use Rattle.pres_client.specs.Calls.{enqueue, sent_now}

-- the path is listened to from now on, and the message says so, field by field
pub watched_fields : (c : ClientState) (m : Queued) (p : Path) (k : ℕ) (queue : List Queued) (sends : List Up) (notices : List Notice) (watches : Watches)
    → queue ≡ c.queue ++ m ∷ [] → sends ≡ c.sends ++ sent_now c m → notices ≡ c.notices → watches ≡ with_watch p (fresh k) c.watches
    → record c { queue = queue; watches = watches; sends = sends; notices = notices } ≡ record (enqueue c m) { watches = with_watch p (fresh k) c.watches }
watched_fields c m p k queue sends notices watches q s n w = rw (q, s, n, w) refl
