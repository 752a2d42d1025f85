-- No call makes more messages than was said before it.
use Rattle.std.proofs.Common.{ℕ, ◌+◌, ◌≤◌, ◌≡◌, Bool, true, false, List, [], ◌∷◌, ◌++◌, length, max, refl, ap, arith, suc, if◌then◌else◌, length-append, append-nil}
use Rattle.std.proofs.lemmas.Bool.Decides.{nat_tests}
use Rattle.pres_ids.specs.declared.id.SessionId.{SessionId}
use Rattle.pres_wire.specs.declared.up.Up.{Up}
use Rattle.pres_wire.specs.declared.up.Up.TheVariants as up
use Rattle.pres_client.specs.declared.client.Phase.{Phase}
use Rattle.pres_client.specs.declared.client.Phase.TheVariants as phase
use Rattle.pres_client_state.specs.declared.queued.Queued.{Queued}
use Rattle.pres_client_state.specs.Queues.{message, messages, next_write}
use Rattle.pres_client.specs.Clients.{ClientState, is_online, is_opening, base_of, outstanding, most_sends}
use Rattle.pres_client.specs.Calls.{sent_now, outgoing}

pub length-messages : (s : SessionId) (q n : ℕ) (ms : List Queued) → length (messages s q n ms) ≡ length ms
length-messages s q n [] = refl
length-messages s q n (m ∷ ms) = ap suc (length-messages s (q + 1) (next_write n m) ms)

max-left : (m n : ℕ) → m ≤ max m n
max-left m n = grind (arith, nat_tests)

max-right : (m n : ℕ) → n ≤ max m n
max-right m n = grind (arith, nat_tests)

-- one message may always be made
pub one : (c : ClientState) → 1 ≤ most_sends c
one c = at c.phase where
  at : (p : Phase) → 1 ≤ (if is_online p then max 1 (length c.queue) else (if is_opening p then max 1 (length c.watches + length c.queue) else 1))
  at phase.Online = max-left 1 (length c.queue)
  at phase.Opening = max-left 1 (length c.watches + length c.queue)
  at phase.Off = omega arith

-- a new message goes out at most once
pub few-now : (c : ClientState) (m : Queued) → length (c.sends ++ sent_now c m) ≤ length c.sends + most_sends c
few-now c m = at (is_online c.phase) (message c.session (c.heard + length c.queue + 1) (base_of c + c.made + 1) m) where
  at : (b : Bool) (out : Up) → length (c.sends ++ (if b then out ∷ [] else [])) ≤ length c.sends + most_sends c
  at true out = omega (arith, length-append c.sends (out ∷ []), one c)
  at false out = rw (append-nil c.sends) (omega (arith, one c))

-- and so does any one message
pub few-one : (c : ClientState) (out : Up) → length (c.sends ++ out ∷ []) ≤ length c.sends + most_sends c
few-one c out = omega (arith, length-append c.sends (out ∷ []), one c)

pub few-resend : (c : ClientState) → length (c.sends ++ outgoing c) ≤ length c.sends + most_sends c
few-resend c =
    let out : length (outgoing c) ≤ most_sends c = at c.phase in
    omega (arith, length-append c.sends (outgoing c), out) where
      at : (p : Phase) → length (if is_online p then outstanding c else (if is_opening p then up.Hello c.session ∷ [] else []))
          ≤ (if is_online p then max 1 (length c.queue) else (if is_opening p then max 1 (length c.watches + length c.queue) else 1))
      at phase.Online = rw (length-messages c.session (c.heard + 1) (base_of c + c.answered + 1) c.queue) (max-right 1 (length c.queue))
      at phase.Opening = max-left 1 (length c.watches + length c.queue)
      at phase.Off = omega arith
