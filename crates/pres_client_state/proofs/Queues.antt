-- The messages of a queue with their numbers, part by part.
use Rattle.std.proofs.Common.{◌≡◌, ℕ, ◌+◌, Bool, true, false, List, [], ◌∷◌, ◌++◌, length, append_assoc, ◌∙◌, ap, subst, arith}
use Rattle.std.specs.Prelude.{if◌then◌else◌}
use Rattle.pres_ids.specs.declared.id.SessionId.{SessionId}
use Rattle.pres_wire.specs.declared.up.Up.{Up}
use Rattle.pres_client_state.specs.declared.queued.Queued.{Queued}
use Rattle.pres_client_state.specs.Queues.{is_write, message, messages, next_write, count_writes}
use Rattle.pres_client_state.specs.ClientQueues.{MayNumber}

-- one more write may be counted before or after
pub later_write : (n k : ℕ) (m : Queued) → next_write n m + k ≡ n + next_write k m
later_write n k m = by (is_write m) where
  by : (b : Bool) → (if b then n + 1 else n) + k ≡ n + (if b then k + 1 else k)
  by true = omega arith
  by false = omega arith

pub count-append : (ms ns : List Queued) → count_writes (ms ++ ns) ≡ count_writes ms + count_writes ns
count-append [] ns = omega arith
count-append (m ∷ ms) ns = ap (λ k. next_write k m) (count-append ms ns) ∙ by (is_write m) (count_writes ms) (count_writes ns) where
  by : (b : Bool) (j k : ℕ) → (if b then (j + k) + 1 else j + k) ≡ (if b then j + 1 else j) + k
  by true j k = omega arith
  by false j k = omega arith

pub messages-append : (s : SessionId) (q n : ℕ) (ms ns : List Queued) → messages s q n (ms ++ ns) ≡ messages s q n ms ++ messages s (q + length ms) (n + count_writes ms) ns
messages-append s q n [] ns = ap (λ k. messages s k n ns) (zero q) ∙ ap (λ k. messages s (q + 0) k ns) (zero n) where
  zero : (k : ℕ) → k ≡ k + 0
  zero k = omega arith
messages-append s q n (m ∷ ms) ns =
    ap (λ l. message s q n m ∷ l)
    (messages-append s (q + 1) (next_write n m) ms ns
    ∙ ap (λ k. messages s (q + 1) (next_write n m) ms ++ messages s k (next_write n m + count_writes ms) ns) (shift q ms)
    ∙ ap (λ k. messages s (q + 1) (next_write n m) ms ++ messages s (q + length (m ∷ ms)) k ns) (later_write n (count_writes ms) m)) where
      shift : (a : ℕ) (l : List Queued) → (a + 1) + length l ≡ a + length (m ∷ l)
      shift a l = omega arith

-- one message more was added
pub added : (s : SessionId) (q n : ℕ) (m : Queued) (rest : List Queued) (before all : List Up) (queue : List Queued) → queue ≡ m ∷ rest
    → (before ++ messages s q n queue ≡ all) × (MayNumber q (length queue) × MayNumber n (count_writes queue))
    → ((before ++ message s q n m ∷ []) ++ messages s (q + 1) (next_write n m) rest ≡ all) × (MayNumber (q + 1) (length rest) × MayNumber (next_write n m) (count_writes rest))
added s q n m rest before all queue is held =
    let h = subst (λ l. (before ++ messages s q n l ≡ all) × (MayNumber q (length l) × MayNumber n (count_writes l))) is held in
    (append_assoc before (message s q n m ∷ []) (messages s (q + 1) (next_write n m) rest) ∙ h.0, ((omega arith, omega (arith, h.1.0.1)), counted n (count_writes rest) (is_write m) h.1.1)) where
      counted : (a k : ℕ) (b : Bool) → MayNumber a (if b then k + 1 else k) → MayNumber (if b then a + 1 else a) k
      counted a k true h = (omega arith, omega (arith, h.1))
      counted a k false h = h
