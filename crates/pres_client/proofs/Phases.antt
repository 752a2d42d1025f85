-- Clients that are not Online.
use Rattle.std.proofs.Common.{◌≡◌, refl, sym, Bool, true, false, if◌then◌else◌, true≢false, Some, None}
use Rattle.std.specs.Option.{is_some}
use Rattle.pres_client.specs.declared.client.Phase.{Phase}
use Rattle.pres_client.specs.declared.client.Phase.TheVariants as phase
use Rattle.pres_client.specs.Clients.{ClientState, is_online, is_opening, session_of}

-- no session is open or being opened
pub not_open : (c : ClientState) → is_some (session_of c) ≡ false → is_online c.phase ≡ false
not_open c e = by (is_online c.phase) e where
  by : (b : Bool) → is_some (if b then Some c.session else (if is_opening c.phase then Some c.session else None)) ≡ false → b ≡ false
  by true k = absurd (true≢false k)
  by false k = refl

pub opening_off : (c : ClientState) → is_opening c.phase ≡ true → is_online c.phase ≡ false
opening_off c e = by c.phase e where
  by : (f : Phase) → is_opening f ≡ true → is_online f ≡ false
  by phase.Online k = absurd (true≢false (sym k))
  by phase.Opening k = refl
  by phase.Off k = refl
