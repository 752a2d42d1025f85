-- The numbers of a client stay in range.
use Rattle.std.proofs.Common.{ℕ, ◌+◌, ◌≤◌, ◌<◌, ◌≡◌, Bool, true, false, List, [], ◌∷◌, ◌++◌, length, filter, Option, refl, ap, ◌∙◌, arith, nat_le, unwrap_or, length-append, if◌then◌else◌}
use Rattle.std.proofs.lemmas.Bool.Decides.{nat_tests}
use Rattle.pres_ids.specs.Numbers.{greatest_number}
use Rattle.pres_client_state.specs.declared.queued.Queued.{Queued}
use Rattle.pres_client_state.specs.declared.queued.Queued.TheVariants.{Write, Try, Left, Cancel, On, Off}
use Rattle.pres_client_state.specs.Queues.{count_writes, next_write, is_write}
use Rattle.pres_client.specs.Clients.{InRange}

-- the number of the next write, by whether the message is one
next_by : (b c : Bool) (n : ℕ) → (if c then (if b then n + 1 else n) + 1 else (if b then n + 1 else n)) ≡ (if b then (if c then n + 1 else n) + 1 else (if c then n + 1 else n))
next_by true true n = refl
next_by true false n = refl
next_by false true n = refl
next_by false false n = refl

swap_writes : (n : ℕ) (a b : Queued) → next_write (next_write n a) b ≡ next_write (next_write n b) a
swap_writes n a b = next_by (is_write a) (is_write b) n

pub count-push : (ms : List Queued) (m : Queued) → count_writes (ms ++ m ∷ []) ≡ next_write (count_writes ms) m
count-push [] m = refl
count-push (a ∷ ms) m = ap (λ n. next_write n a) (count-push ms m) ∙ swap_writes (count_writes ms) m a

pub next-write : (n : ℕ) (m : Queued) → is_write m ≡ true → next_write n m ≡ n + 1
next-write n m h = ap (λ (b : Bool). if b then n + 1 else n) h

pub next-other : (n : ℕ) (m : Queued) → is_write m ≡ false → next_write n m ≡ n
next-other n m h = ap (λ (b : Bool). if b then n + 1 else n) h

pub count-filter : (ms : List Queued) → count_writes (filter is_write ms) ≡ count_writes ms
count-filter [] = refl
count-filter (Write k o ∷ ms) = ap (λ n. n + 1) (count-filter ms)
count-filter (Try k a t ∷ ms) = ap (λ n. n + 1) (count-filter ms)
count-filter (Left k o ∷ ms) = count-filter ms
count-filter (Cancel k p ∷ ms) = count-filter ms
count-filter (On k p ∷ ms) = count-filter ms
count-filter (Off p ∷ ms) = count-filter ms

pub length-filter : (ms : List Queued) → length (filter is_write ms) ≤ length ms
length-filter [] = omega arith
length-filter (Write k o ∷ ms) = omega (arith, length-filter ms)
length-filter (Try k a t ∷ ms) = omega (arith, length-filter ms)
length-filter (Left k o ∷ ms) = omega (arith, length-filter ms)
length-filter (Cancel k p ∷ ms) = omega (arith, length-filter ms)
length-filter (On k p ∷ ms) = omega (arith, length-filter ms)
length-filter (Off p ∷ ms) = omega (arith, length-filter ms)

-- a number is left
pub below : (n : ℕ) → nat_le greatest_number n ≡ false → n < greatest_number
below n h = grind (arith, nat_tests)

-- the session is left
pub in_range-closed : (base : Option ℕ) (made sent answered heard : ℕ) (queue : List Queued) → InRange base made sent answered heard queue → InRange base made sent answered 0 (filter is_write queue)
in_range-closed base made sent answered heard queue h = record {
  writes = omega (arith, h.writes, count-filter queue);
  gone_out = h.gone_out;
  numbers = h.numbers;
  reach = omega (arith, h.reach, length-filter queue);
}

-- one write more, of which the ones that went out are at most all
pub in_range-write : (base : Option ℕ) (made sent answered heard : ℕ) (queue : List Queued) (m : Queued) (now : Bool) → InRange base made sent answered heard queue → is_write m ≡ true
    → unwrap_or base 0 + made < greatest_number → heard + length queue < greatest_number
    → InRange base (made + 1) (if now then made + 1 else sent) answered heard (queue ++ m ∷ [])
in_range-write base made sent answered heard queue m now h w n q = record {
  writes = omega (arith, h.writes, count-push queue m, next-write (count_writes queue) m w);
  gone_out = out now;
  numbers = omega (arith, n);
  reach = omega (arith, q, length-append queue (m ∷ []));
} where
  out : (b : Bool) → (if b then made + 1 else sent) ≤ made + 1
  out true = omega arith
  out false = omega (arith, h.gone_out)

-- one message more, which is no write
pub in_range-other : (base : Option ℕ) (made sent answered heard : ℕ) (queue : List Queued) (m : Queued) → InRange base made sent answered heard queue → is_write m ≡ false
    → heard + length queue < greatest_number
    → InRange base made sent answered heard (queue ++ m ∷ [])
in_range-other base made sent answered heard queue m h w q = record {
  writes = omega (arith, h.writes, count-push queue m, next-other (count_writes queue) m w);
  gone_out = h.gone_out;
  numbers = h.numbers;
  reach = omega (arith, q, length-append queue (m ∷ []));
}
