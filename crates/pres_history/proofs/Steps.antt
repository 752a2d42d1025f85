-- What one entry more changes in what the log says of sessions.
use Rattle.std.proofs.Common.{refl, sym, ◌∙◌, ap, ◌≡◌, ℕ, ◌+◌, suc, List, [], ◌∷◌, ◌++◌, length, Bool, true, false, not, cond, ◌||◌, ◌&&◌, append-nil, arith, length-append}
use Rattle.std.specs.List.{list_any, after_first, filter, filter_map, enumerate_from}
use Rattle.std.proofs.lemmas.Bool.{and_parts}
use Rattle.std.proofs.lemmas.List.Elements.{filter_map-append, filter-append}
use Rattle.pres_ids.specs.declared.id.SessionId.{SessionId}
use Rattle.pres_log.specs.declared.entry.Entry.{Entry}
use Rattle.pres_log.specs.declared.entry.Entry.TheVariants as entry
use Rattle.pres_ids.specs.Ids.{ClientId, same_client, same_session}
use Rattle.pres_server.specs.Sessions.{session_of}
use Rattle.pres_server.proofs.Clients.{client_itself, session_same, session_itself}
use Rattle.pres_history.specs.Sessions.{opened_by, opened, opens, ends, is_open, since_open, own, count, sessions_of, open_sessions_of}
use Rattle.pres_history.specs.Outcomes.{row_in, rows_for}
use Rattle.pres_history.proofs.Since.{any-append, after-append}

pub or_false : (b : Bool) → (b || false) ≡ b
or_false true = refl
or_false false = refl

-- s is open after e where it was or e opens it, and has not ended
pub is_open-append : (s : SessionId) (es : List Entry) (e : Entry) →
    is_open s (es ++ e ∷ []) ≡ ((list_any (opens s) es || opens s e) && not (list_any (ends s) es || ends s e))
is_open-append s es e =
    (λ i. any-append (opens s) es (e ∷ []) i && not (any-append (ends s) es (e ∷ []) i))
    ∙ λ i. (list_any (opens s) es || or_false (opens s e) i) && not (list_any (ends s) es || or_false (ends s e) i)

-- an entry that neither opens nor ends s
pub is_open-same : (s : SessionId) (es : List Entry) (e : Entry) → opens s e ≡ false → ends s e ≡ false → is_open s (es ++ e ∷ []) ≡ is_open s es
is_open-same s es e o f =
    is_open-append s es e
    ∙ (λ i. (list_any (opens s) es || o i) && not (list_any (ends s) es || f i))
    ∙ λ i. or_false (list_any (opens s) es) i && not (or_false (list_any (ends s) es) i)

-- s is among these
abbrev pub In : SessionId → List SessionId → Type 0
In s xs = list_any (same_session s) xs ≡ true

pub any-filter : (s : SessionId) (p : SessionId → Bool) (xs : List SessionId) → list_any (same_session s) (filter p xs) ≡ (p s && list_any (same_session s) xs)
any-filter s p [] = none (p s) where
  none : (b : Bool) → false ≡ (b && false)
  none true = refl
  none false = refl
any-filter s p (x ∷ xs) =
    elim (same_session s x) as (λ b. same_session s x ≡ b → list_any (same_session s) (cond (p x) (x ∷ filter p xs) (filter p xs)) ≡ (p s && (b || list_any (same_session s) xs))) [
      | true ↦ λ e.
          ap (λ y. list_any (same_session s) (cond (p y) (x ∷ filter p xs) (filter p xs))) (sym (session_same s x e))
          ∙ elim (p s) as (λ b. p s ≡ b → list_any (same_session s) (cond b (x ∷ filter p xs) (filter p xs)) ≡ (b && true)) [
            | true ↦ λ _. ap (λ b. b || list_any (same_session s) (filter p xs)) e
            | false ↦ λ k. any-filter s p xs ∙ ap (λ b. b && list_any (same_session s) xs) k
          ] refl
      | false ↦ λ e.
          elim (p x) as (λ b. list_any (same_session s) (cond b (x ∷ filter p xs) (filter p xs)) ≡ list_any (same_session s) (filter p xs)) [
            | true ↦ ap (λ b. b || list_any (same_session s) (filter p xs)) e
            | false ↦ refl
          ]
          ∙ any-filter s p xs
    ] refl

pub any-opened : (s : SessionId) (es : List Entry) → list_any (same_session s) (opened es) ≡ list_any (opens s) es
any-opened s [] = refl
any-opened s (entry.Open t ∷ es) = ap (λ b. same_session s t || b) (any-opened s es)
any-opened s (entry.Op t q n op outcome ∷ es) = any-opened s es
any-opened s (entry.Again t q n ∷ es) = any-opened s es
any-opened s (entry.Left t q puts ∷ es) = any-opened s es
any-opened s (entry.Cancelled t q path ∷ es) = any-opened s es
any-opened s (entry.Denied t q why ∷ es) = any-opened s es
any-opened s (entry.On t q path ∷ es) = any-opened s es
any-opened s (entry.Off t q path ∷ es) = any-opened s es
any-opened s (entry.Ended t q why rows ∷ es) = any-opened s es

-- s is among the open sessions of its client where it is open
pub open_listed : (s : SessionId) (es : List Entry) → list_any (same_session s) (open_sessions_of s.client es) ≡ is_open s es
open_listed s es =
    any-filter s (λ t. is_open t es) (sessions_of s.client es)
    ∙ ap (λ b. is_open s es && b) (any-filter s (λ t. same_client s.client t.client) (opened es))
    ∙ (λ i. is_open s es && (client_itself s.client i && any-opened s es i))
    ∙ twice (list_any (opens s) es) (not (list_any (ends s) es)) where
      twice : (a b : Bool) → ((a && b) && (true && a)) ≡ (a && b)
      twice true true = refl
      twice true false = refl
      twice false b = refl

-- tests that agree on the members
pub filter_alike : (p q : SessionId → Bool) (xs : List SessionId) → ((x : SessionId) → In x xs → p x ≡ q x) → filter p xs ≡ filter q xs
filter_alike p q [] h = refl
filter_alike p q (x ∷ xs) h =
    (λ i. cond (h x (ap (λ b. b || list_any (same_session x) xs) (session_itself x)) i) (x ∷ filter_alike p q xs (λ y k. h y (later (same_session y x) _ k)) i) (filter_alike p q xs (λ y k. h y (later (same_session y x) _ k)) i)) where
      later : (a b : Bool) → b ≡ true → (a || b) ≡ true
      later true b k = refl
      later false b k = k

pub filter-filter : (p q : SessionId → Bool) (xs : List SessionId) → filter p (filter q xs) ≡ filter (λ x. q x && p x) xs
filter-filter p q [] = refl
filter-filter p q (x ∷ xs) = by (q x) (filter-filter p q xs) where
  by : (a : Bool) → filter p (filter q xs) ≡ filter (λ y. q y && p y) xs →
      filter p (cond a (x ∷ filter q xs) (filter q xs)) ≡ cond (a && p x) (x ∷ filter (λ y. q y && p y) xs) (filter (λ y. q y && p y) xs)
  by true e = ap (λ l. cond (p x) (x ∷ l) l) e
  by false e = e

pub sessions_of-append : (c : ClientId) (es : List Entry) (e : Entry) → sessions_of c (es ++ e ∷ []) ≡ sessions_of c es ++ filter (λ s. same_client c s.client) (opened (e ∷ []))
sessions_of-append c es e =
    ap (filter (λ s. same_client c s.client)) (filter_map-append opened_by es (e ∷ []))
    ∙ filter-append (λ s. same_client c s.client) (opened es) (opened (e ∷ []))

pub in_sessions : (s : SessionId) (c : ClientId) (es : List Entry) → In s (sessions_of c es) → (same_client c s.client ≡ true) × (list_any (opens s) es ≡ true)
in_sessions s c es h =
    let a = and_parts (same_client c s.client) _ (sym (any-filter s (λ t. same_client c t.client) (opened es)) ∙ h) in
    (a.0, sym (any-opened s es) ∙ a.1)

pub in_open : (s : SessionId) (c : ClientId) (es : List Entry) → In s (open_sessions_of c es) → (same_client c s.client ≡ true) × (is_open s es ≡ true)
in_open s c es h =
    let a = and_parts (is_open s es) _ (sym (any-filter s (λ t. is_open t es) (sessions_of c es)) ∙ h) in
    ((in_sessions s c es a.1).0, a.0)

pub rows_for-append : (c : ClientId) (es : List Entry) (e : Entry) → rows_for c (es ++ e ∷ []) ≡ rows_for c es ++ filter_map (λ (p : ℕ × Entry). row_in c p.0 p.1) ((length es + 1, e) ∷ [])
rows_for-append c es e =
    ap (filter_map (λ (p : ℕ × Entry). row_in c p.0 p.1)) (enumerated 1 es)
    ∙ filter_map-append (λ (p : ℕ × Entry). row_in c p.0 p.1) (enumerate_from 1 es) ((length es + 1, e) ∷ []) where
      enumerated : (n : ℕ) (xs : List Entry) → enumerate_from n (xs ++ e ∷ []) ≡ enumerate_from n xs ++ (length xs + n, e) ∷ []
      enumerated n [] = let k : n ≡ 0 + n = omega arith in λ i. (k i, e) ∷ []
      enumerated n (x ∷ xs) =
          let k : length xs + (n + 1) ≡ suc (length xs) + n = omega arith in
          ap (λ l. (n, x) ∷ l) (enumerated (n + 1) xs ∙ ap (λ m. enumerate_from (n + 1) xs ++ (m, e) ∷ []) k)

-- the count of an opened session after one entry more
pub own-append : (s : SessionId) (es : List Entry) (e : Entry) → list_any (opens s) es ≡ true → own s (es ++ e ∷ []) ≡ own s es ++ cond (same_session s (session_of e)) (e ∷ []) []
own-append s es e o =
    ap (filter (λ x. same_session s (session_of x))) (after-append (opens s) es (e ∷ []) ∙ ap (λ b. cond b (since_open s es ++ e ∷ []) (after_first (opens s) (e ∷ []))) o)
    ∙ filter-append (λ x. same_session s (session_of x)) (since_open s es) (e ∷ [])

pub count_own : (s : SessionId) (es : List Entry) (e : Entry) → list_any (opens s) es ≡ true → same_session s (session_of e) ≡ true → count s (es ++ e ∷ []) ≡ count s es + 1
count_own s es e o k =
    ap length (own-append s es e o ∙ ap (λ b. own s es ++ cond b (e ∷ []) []) k)
    ∙ length-append (own s es) (e ∷ [])

pub count_other : (s : SessionId) (es : List Entry) (e : Entry) → list_any (opens s) es ≡ true → same_session s (session_of e) ≡ false → count s (es ++ e ∷ []) ≡ count s es
count_other s es e o k = ap length (own-append s es e o ∙ ap (λ b. own s es ++ cond b (e ∷ []) []) k ∙ append-nil (own s es))
