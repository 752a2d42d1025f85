-- What stands before and after the entry that opens a session, as the log grows.
use Rattle.std.proofs.Common.{refl, sym, ◌∙◌, ap, ◌≡◌, ◌+◌, suc, List, [], ◌∷◌, ◌++◌, take, drop, Bool, true, false, not, cond, ◌||◌, true≢false, arith}
use Rattle.std.specs.List.{list_any, before_first, after_first, position_or_len}
use Rattle.pres_ids.specs.declared.id.SessionId.{SessionId}
use Rattle.pres_log.specs.declared.entry.Entry.{Entry}
use Rattle.pres_log.specs.declared.entry.Entry.TheVariants as entry
use Rattle.pres_server.proofs.Clients.{session_same}
use Rattle.pres_history.specs.Sessions.{opens, ends, since_open}

pub any-append : {A : Type 0} (f : A → Bool) (xs ys : List A) → list_any f (xs ++ ys) ≡ (list_any f xs || list_any f ys)
any-append f [] ys = refl
any-append f (x ∷ xs) ys = ap (λ b. f x || b) (any-append f xs ys) ∙ assoc (f x) _ _ where
  assoc : (a b c : Bool) → (a || (b || c)) ≡ ((a || b) || c)
  assoc true b c = refl
  assoc false b c = refl

pub after-cons : {A : Type 0} (p : A → Bool) (x : A) (xs : List A) → after_first p (x ∷ xs) ≡ cond (p x) xs (after_first p xs)
after-cons {A} p x xs = elim (p x) as (λ b. drop (cond (not b) (1 + position_or_len p xs) 0 + 1) (x ∷ xs) ≡ cond b xs (after_first p xs)) [
  | true ↦ refl
  | false ↦ let e : 1 + position_or_len p xs + 1 ≡ suc (position_or_len p xs + 1) = omega arith in ap (λ k. drop k (x ∷ xs)) e
]

pub before-cons : {A : Type 0} (p : A → Bool) (x : A) (xs : List A) → before_first p (x ∷ xs) ≡ cond (p x) [] (x ∷ before_first p xs)
before-cons p x xs = elim (p x) as (λ b. take (cond (not b) (1 + position_or_len p xs) 0) (x ∷ xs) ≡ cond b [] (x ∷ before_first p xs)) [
  | true ↦ refl
  | false ↦ let e : 1 + position_or_len p xs ≡ suc (position_or_len p xs) = omega arith in ap (λ k. take k (x ∷ xs)) e
]

pub after-none : {A : Type 0} (p : A → Bool) (xs : List A) → list_any p xs ≡ false → after_first p xs ≡ []
after-none p [] h = refl
after-none p (x ∷ xs) h = after-cons p x xs ∙ by_head (p x) h (after-none p xs) where
  by_head : (b : Bool) → (b || list_any p xs) ≡ false → (list_any p xs ≡ false → after_first p xs ≡ []) → cond b xs (after_first p xs) ≡ []
  by_head true e f = absurd (true≢false e)
  by_head false e f = f e

pub after-append : {A : Type 0} (p : A → Bool) (xs ys : List A) → after_first p (xs ++ ys) ≡ cond (list_any p xs) (after_first p xs ++ ys) (after_first p ys)
after-append p [] ys = refl
after-append p (x ∷ xs) ys =
    after-cons p x (xs ++ ys)
    ∙ step (p x) (after-append p xs ys)
    ∙ ap (λ l. cond (p x || list_any p xs) (l ++ ys) (after_first p ys)) (sym (after-cons p x xs)) where
      step : (b : Bool) → after_first p (xs ++ ys) ≡ cond (list_any p xs) (after_first p xs ++ ys) (after_first p ys) →
          cond b (xs ++ ys) (after_first p (xs ++ ys)) ≡ cond (b || list_any p xs) (cond b xs (after_first p xs) ++ ys) (after_first p ys)
      step true e = refl
      step false e = e

pub before-append : {A : Type 0} (p : A → Bool) (xs ys : List A) → before_first p (xs ++ ys) ≡ cond (list_any p xs) (before_first p xs) (xs ++ before_first p ys)
before-append p [] ys = refl
before-append p (x ∷ xs) ys =
    before-cons p x (xs ++ ys)
    ∙ step (p x) (before-append p xs ys)
    ∙ ap (λ l. cond (p x || list_any p xs) l (x ∷ xs ++ before_first p ys)) (sym (before-cons p x xs)) where
      step : (b : Bool) → before_first p (xs ++ ys) ≡ cond (list_any p xs) (before_first p xs) (xs ++ before_first p ys) →
          cond b [] (x ∷ before_first p (xs ++ ys)) ≡ cond (b || list_any p xs) (cond b [] (x ∷ before_first p xs)) (x ∷ xs ++ before_first p ys)
      step true e = refl
      step false e = ap (λ l. x ∷ l) e ∙ push (list_any p xs) where
        push : (c : Bool) → x ∷ cond c (before_first p xs) (xs ++ before_first p ys) ≡ cond c (x ∷ before_first p xs) (x ∷ xs ++ before_first p ys)
        push true = refl
        push false = refl

pub opens-is : (s : SessionId) (e : Entry) → opens s e ≡ true → e ≡ entry.Open s
opens-is s (entry.Open t) h = ap entry.Open (sym (session_same s t h))
opens-is s _ h = absurd (true≢false (sym h))

-- a log is what stands before the Open of s, that entry, and what stands after it
pub split_at_open : (s : SessionId) (es : List Entry) → list_any (opens s) es ≡ true → (before_first (opens s) es ++ entry.Open s ∷ []) ++ since_open s es ≡ es
split_at_open s [] h = absurd (true≢false (sym h))
split_at_open s (e ∷ es) h =
    (λ i. (before-cons (opens s) e es i ++ entry.Open s ∷ []) ++ after-cons (opens s) e es i)
    ∙ by_head (opens s e) refl h (split_at_open s es) where
      by_head : (b : Bool) → opens s e ≡ b → (b || list_any (opens s) es) ≡ true →
          (list_any (opens s) es ≡ true → (before_first (opens s) es ++ entry.Open s ∷ []) ++ since_open s es ≡ es) →
          (cond b [] (e ∷ before_first (opens s) es) ++ entry.Open s ∷ []) ++ cond b es (since_open s es) ≡ e ∷ es
      by_head true o k f = ap (λ x. x ∷ es) (sym (opens-is s e o))
      by_head false o k f = ap (λ l. e ∷ l) (f k)

-- no entry after the Open of s ends it where none ends it at all
pub not_ended_since : (s : SessionId) (es : List Entry) → list_any (ends s) es ≡ false → list_any (ends s) (since_open s es) ≡ false
not_ended_since s [] h = refl
not_ended_since s (e ∷ es) h = ap (list_any (ends s)) (after-cons (opens s) e es) ∙ by_head (opens s e) (rest (ends s e) h) (not_ended_since s es) where
  rest : (b : Bool) → (b || list_any (ends s) es) ≡ false → list_any (ends s) es ≡ false
  rest true k = absurd (true≢false k)
  rest false k = k

  by_head : (b : Bool) → list_any (ends s) es ≡ false → (list_any (ends s) es ≡ false → list_any (ends s) (since_open s es) ≡ false) → list_any (ends s) (cond b es (since_open s es)) ≡ false
  by_head true k f = k
  by_head false k f = f k
