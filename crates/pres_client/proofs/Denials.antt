-- A denied listen, by whether a later message listens to its path.
use Rattle.std.proofs.Common.{ℕ, ◌≡◌, true, false, drop, Some, refl}
use Rattle.std.specs.List.{list_any}
use Rattle.pres_tree.specs.Paths.{Path}
use Rattle.pres_wire.specs.declared.down.Limit.TheVariants as limit
use Rattle.pres_client_state.specs.declared.notice.Notice.TheVariants as notice
use Rattle.pres_client_state.specs.Watches.{without_watch}
use Rattle.pres_client_state.specs.Queues.{is_on}
use Rattle.pres_client.specs.Clients.{ClientState}
use Rattle.pres_client.specs.Calls.{note}
use Rattle.pres_client.specs.ReceivedMessages.{bring, fits, answered, first_listen, listen_denied}

pub denied_again : (c : ClientState) (z q k : ℕ) (p : Path) → first_listen c.queue ≡ Some (k, p) → fits c q ≡ true → list_any (is_on p) (drop 1 c.queue) ≡ true
    → answered (bring (note c (notice.Denied k limit.Listens)) z) (drop 1 c.queue) ≡ listen_denied (bring c z) (drop 1 c.queue) q (first_listen c.queue)
denied_again c z q k p first fit later = rw (first, fit, later) refl

pub denied_last : (c : ClientState) (z q k : ℕ) (p : Path) → first_listen c.queue ≡ Some (k, p) → fits c q ≡ true → list_any (is_on p) (drop 1 c.queue) ≡ false
    → (let d = answered (bring (note c (notice.Denied k limit.Listens)) z) (drop 1 c.queue) in record d { watches = without_watch p d.watches })
    ≡ listen_denied (bring c z) (drop 1 c.queue) q (first_listen c.queue)
denied_last c z q k p first fit later = rw (first, fit, later) refl
