-- What a Welcome puts in front of the writes, and that its numbers fit.
use Rattle.std.proofs.Common.{ℕ, ◌+◌, ◌≤◌, ◌≡◌, Bool, true, false, ◌&&◌, List, [], ◌∷◌, ◌++◌, length, max, map, Some, refl, arith, nat_le, unwrap_or, length-append, Result, Ok, Err, if◌then◌else◌}
use Rattle.std.specs.Result.{OnOk, OnErr}
use Rattle.std.proofs.lemmas.Bool.Decides.{nat_tests}
use Rattle.pres_ids.specs.Numbers.{greatest_number}
use Rattle.pres_client.specs.declared.client.Phase.{Phase}
use Rattle.pres_client.specs.declared.client.Phase.TheVariants as phase
use Rattle.pres_client_state.specs.declared.notice.Notice.TheVariants as notice
use Rattle.pres_wire.specs.declared.down.Code.TheVariants as code
use Rattle.pres_client_state.specs.declared.queued.Queued.{Queued}
use Rattle.pres_client_state.specs.Watches.{Watches}
use Rattle.pres_client_state.specs.Queues.{count_writes}
use Rattle.pres_client.specs.Clients.{ClientState, InRange, is_online, is_opening, most_sends, base_of, outstanding}
use Rattle.pres_client.specs.Calls.{IsFew, note}
use Rattle.pres_client_state.specs.Watches.{on_of}
use Rattle.pres_client.specs.ReceivedMessages.{is_fit, opened, after_welcome}
use Rattle.pres_client.proofs.Few.{length-messages}

pub count-ons : (ws : Watches) → count_writes (map on_of ws) ≡ 0
count-ons [] = refl
count-ons (w ∷ ws) = count-ons ws

pub count-opened : (ws : Watches) (ms : List Queued) → count_writes (map on_of ws ++ ms) ≡ count_writes ms
count-opened [] ms = refl
count-opened (w ∷ ws) ms = count-opened ws ms

pub length-opened : (ws : Watches) (ms : List Queued) → length (map on_of ws ++ ms) ≡ length ws + length ms
length-opened [] ms = omega arith
length-opened (w ∷ ws) ms = omega (arith, length-opened ws ms)

fits : (a o s m l : ℕ) → (nat_le a o && (nat_le o s && (nat_le m greatest_number && nat_le l greatest_number))) ≡ true → (m ≤ greatest_number) × (l ≤ greatest_number)
fits a o s m l h = grind (arith, nat_tests)

fit_is : (c : ClientState) (ops : ℕ) → is_fit c ops ≡ true → (unwrap_or c.base ops + c.made ≤ greatest_number) × (length c.watches + length c.queue ≤ greatest_number)
fit_is c ops fit = fits (unwrap_or c.base ops + c.answered) ops (unwrap_or c.base ops + c.sent) (unwrap_or c.base ops + c.made) (length c.watches + length c.queue) fit

pub numbers-opened : (c : ClientState) (ops : ℕ) → InRange c.base c.made c.sent c.answered c.heard c.queue → is_fit c ops ≡ true
    → unwrap_or c.base ops + c.answered + 1 + count_writes (map on_of c.watches ++ c.queue) ≤ greatest_number + 1
numbers-opened c ops h fit = omega (arith, (fit_is c ops fit).0, h.writes, count-opened c.watches c.queue)

pub in_range-opened : (c : ClientState) (ops : ℕ) → InRange c.base c.made c.sent c.answered c.heard c.queue → is_fit c ops ≡ true
    → InRange (Some (unwrap_or c.base ops)) c.made c.made c.answered 0 (map on_of c.watches ++ c.queue)
in_range-opened c ops h fit = record {
  writes = omega (arith, h.writes, count-opened c.watches c.queue);
  gone_out = omega arith;
  numbers = (fit_is c ops fit).0;
  reach = omega (arith, (fit_is c ops fit).1, length-opened c.watches c.queue);
}

few-if : (b : Bool) (x y : ClientState) (n : ℕ) → length x.sends ≤ n → length y.sends ≤ n → length (if b then x else y).sends ≤ n
few-if true x y n g h = g
few-if false x y n g h = h

above : (m n : ℕ) → n ≤ max m n
above m n = grind (arith, nat_tests)

-- a Welcome sends what the client had said
pub few-welcome : (c : ClientState) (ops : ℕ) → is_opening c.phase ≡ true → length (after_welcome c ops).sends ≤ length c.sends + most_sends c
few-welcome c ops h =
    let d = opened c ops in
    let most : length c.watches + length c.queue ≤ most_sends c = at c.phase h in
    let long : length (c.sends ++ outstanding d) ≤ length c.sends + most_sends c =
    omega (arith, length-append c.sends (outstanding d), length-messages c.session 1 (base_of d + c.answered + 1) d.queue, length-opened c.watches c.queue, most) in
    few-if (is_fit c ops) (let e = note d (notice.Connected true) in record e { sends = c.sends ++ outstanding d }) (let e = note c (notice.Faulted code.Bad) in record e { phase = phase.Off })
    (length c.sends + most_sends c) long (omega arith) where
      at : (p : Phase) → is_opening p ≡ true → length c.watches + length c.queue ≤ (if is_online p then max 1 (length c.queue) else (if is_opening p then max 1 (length c.watches + length c.queue) else 1))
      at phase.Online e = absurd cc
      at phase.Opening e = above 1 (length c.watches + length c.queue)
      at phase.Off e = absurd cc

-- what a call leaves that answers a Result
pub few_of : {T E : Type 0} → (r : Result T E) (before after now : ClientState) → OnOk r (now ≡ after) → OnErr r (now ≡ before) → length after.sends ≤ length before.sends + most_sends before → IsFew before now
few_of (Ok x) before after now h g few = rw h few
few_of (Err x) before after now h g few = rw g (omega arith)
