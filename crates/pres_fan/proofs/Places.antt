-- The places of a session, step by step.
use Rattle.std.proofs.Common.{refl, sym, ◌∙◌, ap, subst, ◌≡◌, ℕ, ◌≤◌, suc, arith, List, [], ◌∷◌, length, map, filter, Bool, true, false, not, cond, ◌&&◌, true≢false, Ordering, Less, Equal, Greater, is_eq, is_gt}
use Rattle.std.specs.Prelude.{nat_le, nat_lt}
use Rattle.std.specs.List.{list_any, AllByRecursion}
use Rattle.std.specs.List.Sorted.{IsStrictlySortedBy}
use Rattle.std.specs.Cmp.{tied_itself}
use Rattle.std.specs.Ordering.{match_ordering, ordering_then}
use Rattle.std.proofs.lemmas.Bool.{le-leb, ltb-true, ltb-false, leb-true, leb-false, and_left, false_from_ne_true}
use Rattle.std.proofs.lemmas.List.{length-map}
use Rattle.std.proofs.lemmas.List.Kept.{IsStrictlySortedBy-filter}
use Rattle.std.proofs.lemmas.Map.Keys.{sorted_head, sorted_tail}
use Rattle.pres_tree.specs.Paths.{Path, path_cmp, same_path}
use Rattle.pres_ids.specs.Ids.{same_session}
use Rattle.pres_ids.specs.declared.id.SessionId.{SessionId}
use Rattle.pres_fan.specs.declared.listeners.Listener.{Listener}
use Rattle.pres_fan.specs.Listeners.{session_cmp, listener_cmp, same_listener, listener_of, paths_of, IsListeners, add_path, with_listener, without, without_session}
use Rattle.pres_fan.proofs.Orders.{session_total, session_apart, session_same, session_itself, listener_total, listener_apart, listener_same, listener_itself}
use Rattle.pres_fan.proofs.Lists.{under, all_kept, none_kept, filter_map_later, passes, all_then, filter_none, filter_put_other, length_put_new, put_again}

-- ---- one session and the others

-- a session that another one comes before is another
pub less_apart : (s t : SessionId) → session_cmp s t ≡ Less → same_session s t ≡ false
less_apart s t l = false_from_ne_true _ (λ e. true≢false (ap is_eq (sym (tied_itself session_total s) ∙ ap (session_cmp s) (session_same s t e) ∙ l)))

pub flip : (s t : SessionId) → same_session s t ≡ false → same_session t s ≡ false
flip s t e = false_from_ne_true _ (λ k. true≢false (sym (session_itself t) ∙ ap (λ x. same_session x t) (session_same t s k) ∙ e))

-- the session is not after the other
abbrev pub From : SessionId → Listener → Type 0
From s l = is_gt (session_cmp s l.session) ≡ false

-- in order, the sessions never fall
pub head_from : (x y : Listener) → listener_cmp x y ≡ Less → From x.session y
head_from x y = by (session_cmp x.session y.session) where
  by : (o : Ordering) → ordering_then o (path_cmp x.path y.path) ≡ Less → is_gt o ≡ false
  by Less e = refl
  by Equal e = refl
  by Greater e = absurd (true≢false (ap is_gt e))

pub all_from : (x : Listener) (xs : List Listener) → IsStrictlySortedBy listener_cmp (x ∷ xs) → AllByRecursion (From x.session) xs
all_from x xs s = all_then (λ y. listener_cmp x y ≡ Less) (From x.session) (head_from x) xs (sorted_head listener_cmp x xs s)

-- who is not after and another is before
pub from_apart : (s t : SessionId) → is_gt (session_cmp s t) ≡ false → same_session s t ≡ false → session_cmp s t ≡ Less
from_apart s t f e = by (session_cmp s t) refl f where
  by : (o : Ordering) → session_cmp s t ≡ o → is_gt o ≡ false → o ≡ Less
  by Less o k = refl
  by Equal o k = absurd (true≢false (sym (session_itself s) ∙ ap (same_session s) (session_apart s t o) ∙ e))
  by Greater o k = absurd (true≢false k)

-- the sessions after one that comes later come later
pub all_later : (s : SessionId) (x : Listener) (xs : List Listener) → IsStrictlySortedBy listener_cmp (x ∷ xs) → session_cmp s x.session ≡ Less → AllByRecursion (λ y. session_cmp s y.session ≡ Less) (x ∷ xs)
all_later s x xs sorted l = (l, all_then (From x.session) (λ y. session_cmp s y.session ≡ Less) later xs (all_from x xs sorted)) where
  later : (y : Listener) → From x.session y → session_cmp s y.session ≡ Less
  later y f = elim (same_session x.session y.session) as (λ b. same_session x.session y.session ≡ b → session_cmp s y.session ≡ Less) [
    | true ↦ λ e. ap (session_cmp s) (sym (session_same x.session y.session e)) ∙ l
    | false ↦ λ e. session_total.trans s x.session y.session l (from_apart x.session y.session f e)
  ] refl

pub none_later : (s : SessionId) (xs : List Listener) → AllByRecursion (λ y. session_cmp s y.session ≡ Less) xs → paths_of s xs ≡ []
none_later s xs a = ap (map (λ l. l.path)) (filter_none (λ y. same_session s y.session) xs (all_then (λ y. session_cmp s y.session ≡ Less) (λ y. same_session s y.session ≡ false) (λ y. less_apart s y.session) xs a))

-- ---- with one place more

-- the places of another session stay
pub with_other : (s : SessionId) (p : Path) (t : SessionId) (ls : List Listener) → same_session t s ≡ false → paths_of t (with_listener s p ls) ≡ paths_of t ls
with_other s p t ls e = ap (map (λ l. l.path)) (filter_put_other listener_cmp (listener_of s p) (λ l. same_session t l.session) e ls)

-- the session itself has the place in order
pub with_own : (s : SessionId) (p : Path) (ls : List Listener) → IsStrictlySortedBy listener_cmp ls → paths_of s (with_listener s p ls) ≡ add_path p (paths_of s ls)
with_own s p [] sorted = ap (λ b. map (λ l. l.path) (cond b (listener_of s p ∷ []) [])) (session_itself s)
with_own s p (x ∷ xs) sorted = by_session (same_session s x.session) refl (with_own s p xs (sorted_tail listener_cmp x xs sorted)) where
  P : List Listener → List Path
  P = paths_of s

  kept : (ls : List Listener) → same_session s x.session ≡ true → P (x ∷ ls) ≡ x.path ∷ P ls
  kept ls e = ap (λ b. map (λ l. l.path) (cond b (x ∷ filter (λ l. same_session s l.session) ls) (filter (λ l. same_session s l.session) ls))) e

  left : (ls : List Listener) → same_session s x.session ≡ false → P (x ∷ ls) ≡ P ls
  left ls e = ap (λ b. map (λ l. l.path) (cond b (x ∷ filter (λ l. same_session s l.session) ls) (filter (λ l. same_session s l.session) ls))) e

  first : (ls : List Listener) → P (listener_of s p ∷ ls) ≡ p ∷ P ls
  first ls = ap (λ b. map (λ l. l.path) (cond b (listener_of s p ∷ filter (λ l. same_session s l.session) ls) (filter (λ l. same_session s l.session) ls))) (session_itself s)

  by_path : (o : Ordering) → same_session s x.session ≡ true → P (with_listener s p xs) ≡ add_path p (P xs) →
      P (match_ordering o (listener_of s p ∷ x ∷ xs) (x ∷ xs) (x ∷ with_listener s p xs)) ≡ match_ordering o (p ∷ x.path ∷ P xs) (x.path ∷ P xs) (x.path ∷ add_path p (P xs))
  by_path Less e h = first (x ∷ xs) ∙ ap (λ l. p ∷ l) (kept xs e)
  by_path Equal e h = kept xs e
  by_path Greater e h = kept (with_listener s p xs) e ∙ ap (λ l. x.path ∷ l) h

  by_order : (o : Ordering) → session_cmp s x.session ≡ o → same_session s x.session ≡ false → P (with_listener s p xs) ≡ add_path p (P xs) →
      P (match_ordering (ordering_then o (path_cmp p x.path)) (listener_of s p ∷ x ∷ xs) (x ∷ xs) (x ∷ with_listener s p xs)) ≡ add_path p (P xs)
  by_order Less o e h =
      let later = all_later s x xs sorted o in
      first (x ∷ xs) ∙ ap (λ l. p ∷ l) (none_later s (x ∷ xs) later) ∙ sym (ap (add_path p) (none_later s xs later.1))
  by_order Equal o e h = absurd (true≢false (sym (session_itself s) ∙ ap (same_session s) (session_apart s x.session o) ∙ e))
  by_order Greater o e h = left (with_listener s p xs) e ∙ h

  by_session : (b : Bool) → same_session s x.session ≡ b → P (with_listener s p xs) ≡ add_path p (P xs) → P (with_listener s p (x ∷ xs)) ≡ add_path p (P (x ∷ xs))
  by_session true e h =
      let tied : session_cmp s x.session ≡ Equal = ap (session_cmp s) (sym (session_same s x.session e)) ∙ tied_itself session_total s in
      ap (λ o. P (match_ordering (ordering_then o (path_cmp p x.path)) (listener_of s p ∷ x ∷ xs) (x ∷ xs) (x ∷ with_listener s p xs))) tied
      ∙ by_path (path_cmp p x.path) e h
      ∙ sym (ap (add_path p) (kept xs e))
  by_session false e h = by_order (session_cmp s x.session) refl e h ∙ sym (ap (add_path p) (left xs e))

pub with_step : (s : SessionId) (p : Path) (t : SessionId) (ls : List Listener) → IsListeners ls → paths_of t (with_listener s p ls) ≡ cond (same_session t s) (add_path p (paths_of t ls)) (paths_of t ls)
with_step s p t ls held = elim (same_session t s) as (λ b. same_session t s ≡ b → paths_of t (with_listener s p ls) ≡ cond b (add_path p (paths_of t ls)) (paths_of t ls)) [
  | true ↦ λ e. subst (λ u. paths_of u (with_listener s p ls) ≡ add_path p (paths_of u ls)) (sym (session_same t s e)) (with_own s p ls held.ordered)
  | false ↦ λ e. with_other s p t ls e
] refl

-- ---- with one place less, and without a session

pub without_step : (s : SessionId) (p : Path) (t : SessionId) (ls : List Listener) → paths_of t (without s p ls) ≡ cond (same_session t s) (filter (λ q. not (same_path p q)) (paths_of t ls)) (paths_of t ls)
without_step s p t ls = by (same_session t s) refl where
  by : (b : Bool) → same_session t s ≡ b → paths_of t (without s p ls) ≡ cond b (filter (λ q. not (same_path p q)) (paths_of t ls)) (paths_of t ls)
  by true e =
      ap (map (λ l. l.path)) (under (λ l. same_session t l.session) (λ l. not (same_listener (listener_of s p) l)) (λ l. not (same_path p l.path))
      (λ l k. ap (λ b. not (b && same_path p l.path)) (ap (λ u. same_session u l.session) (sym (session_same t s e)) ∙ k)) ls)
      ∙ filter_map_later (λ l. l.path) (λ l. same_session t l.session) (λ q. not (same_path p q)) ls
  by false e =
      ap (map (λ l. l.path)) (under (λ l. same_session t l.session) (λ l. not (same_listener (listener_of s p) l)) (λ l. true)
      (λ l k. ap not (and_left _ _ (ap (same_session s) (sym (session_same t l.session k)) ∙ flip t s e))) ls
      ∙ ap (filter (λ l. same_session t l.session)) (all_kept ls))

pub without_session_step : (s t : SessionId) (ls : List Listener) → paths_of t (without_session s ls) ≡ cond (same_session t s) [] (paths_of t ls)
without_session_step s t ls = by (same_session t s) refl where
  by : (b : Bool) → same_session t s ≡ b → paths_of t (without_session s ls) ≡ cond b [] (paths_of t ls)
  by true e =
      ap (map (λ l. l.path)) (under (λ l. same_session t l.session) (λ l. not (same_session s l.session)) (λ l. false)
      (λ l k. ap not (ap (λ u. same_session u l.session) (sym (session_same t s e)) ∙ k)) ls
      ∙ ap (filter (λ l. same_session t l.session)) (none_kept ls))
  by false e =
      ap (map (λ l. l.path)) (under (λ l. same_session t l.session) (λ l. not (same_session s l.session)) (λ l. true)
      (λ l k. ap not (ap (same_session s) (sym (session_same t l.session k)) ∙ flip t s e)) ls
      ∙ ap (filter (λ l. same_session t l.session)) (all_kept ls))

-- ---- the places rise

rise : (s : SessionId) (ls : List Listener) → IsStrictlySortedBy listener_cmp ls → AllByRecursion (λ l. same_session s l.session ≡ true) ls → IsStrictlySortedBy path_cmp (map (λ l. l.path) ls)
unfolding IsStrictlySortedBy
rise s [] sorted own = tt
rise s (x ∷ xs) sorted own = (above xs (sorted_head listener_cmp x xs sorted) own.1, rise s xs (sorted_tail listener_cmp x xs sorted) own.1) where
  first : same_session s x.session ≡ true
  first = own.0

  above : (ys : List Listener) → AllByRecursion (λ y. listener_cmp x y ≡ Less) ys → AllByRecursion (λ l. same_session s l.session ≡ true) ys → AllByRecursion (λ q. path_cmp x.path q ≡ Less) (map (λ l. l.path) ys)
  above [] a own = tt
  above (y ∷ ys) a own =
      let tied : session_cmp x.session y.session ≡ Equal = ap (session_cmp x.session) (sym (session_same s y.session own.0) ∙ session_same s x.session first) ∙ tied_itself session_total x.session in
      (sym (ap (λ o. ordering_then o (path_cmp x.path y.path)) tied) ∙ a.0, above ys a.1 own.1)

pub paths_rise : (s : SessionId) (ls : List Listener) → IsListeners ls → IsStrictlySortedBy path_cmp (paths_of s ls)
paths_rise s ls held = rise s (filter (λ l. same_session s l.session) ls) (IsStrictlySortedBy-filter listener_cmp (λ l. same_session s l.session) ls held.ordered) (passes (λ l. same_session s l.session) ls)

-- ---- listeners stay listeners

fewer : {A : Type 0} (p q : A → Bool) (xs : List A) → length (filter p (filter q xs)) ≤ length (filter p xs)
fewer p q [] = omega arith
fewer p q (x ∷ xs) = by (q x) (p x) refl (fewer p q xs) where
  by : (b c : Bool) → p x ≡ c → length (filter p (filter q xs)) ≤ length (filter p xs) → length (filter p (cond b (x ∷ filter q xs) (filter q xs))) ≤ length (cond (p x) (x ∷ filter p xs) (filter p xs))
  by true true e h = subst (λ d. length (cond d (x ∷ filter p (filter q xs)) (filter p (filter q xs))) ≤ length (cond d (x ∷ filter p xs) (filter p xs))) (sym e) (omega arith)
  by true false e h = subst (λ d. length (cond d (x ∷ filter p (filter q xs)) (filter p (filter q xs))) ≤ length (cond d (x ∷ filter p xs) (filter p xs))) (sym e) h
  by false true e h = subst (λ d. length (filter p (filter q xs)) ≤ length (cond d (x ∷ filter p xs) (filter p xs))) (sym e) (omega arith)
  by false false e h = subst (λ d. length (filter p (filter q xs)) ≤ length (cond d (x ∷ filter p xs) (filter p xs))) (sym e) h

pub count_is : (s : SessionId) (ls : List Listener) → length (paths_of s ls) ≡ length (filter (λ l. same_session s l.session) ls)
count_is s ls = length-map (filter (λ l. same_session s l.session) ls) (λ l. l.path)

pub filtered_listeners : (p : Listener → Bool) (ls : List Listener) → IsListeners ls → IsListeners (filter p ls)
filtered_listeners p ls held = record {
  ordered = IsStrictlySortedBy-filter listener_cmp p ls held.ordered;
  few = λ s. omega (arith, held.few s, count_is s ls, count_is s (filter p ls), fewer (λ l. same_session s l.session) p ls);
}

-- a place that is there once more fits
pub again_fits : (s : SessionId) (p : Path) (ls : List Listener) → IsListeners ls → list_any (same_listener (listener_of s p)) ls ≡ true → nat_le (length (paths_of s (with_listener s p ls))) 256 ≡ true
again_fits s p ls held e =
    ap (λ l. nat_le (length (paths_of s l)) 256) (put_again listener_cmp (listener_of s p) same_listener listener_total (listener_same (listener_of s p)) ls held.ordered e)
    ∙ le-leb _ _ (held.few s)

one_more : (m n : ℕ) → n ≡ suc m → nat_lt m 256 ≡ nat_le n 256
one_more m n e = by (nat_lt m 256) (nat_le n 256) refl refl where
  by : (a b : Bool) → nat_lt m 256 ≡ a → nat_le n 256 ≡ b → a ≡ b
  by true true h k = refl
  by true false h k = absurd (omega (arith, ltb-true m 256 h, leb-false n 256 k, e))
  by false true h k = absurd (omega (arith, ltb-false m 256 h, leb-true n 256 k, e))
  by false false h k = refl

-- a new place fits where there is room for one
pub new_fits : (s : SessionId) (p : Path) (ls : List Listener) → list_any (same_listener (listener_of s p)) ls ≡ false → nat_lt (length (paths_of s ls)) 256 ≡ nat_le (length (paths_of s (with_listener s p ls))) 256
new_fits s p ls e =
    one_more (length (paths_of s ls)) (length (paths_of s (with_listener s p ls)))
    (count_is s (with_listener s p ls)
    ∙ length_put_new listener_cmp (listener_of s p) same_listener
    (λ x o. ap (same_listener (listener_of s p)) (sym (listener_apart (listener_of s p) x o)) ∙ listener_itself (listener_of s p))
    (λ l. same_session s l.session) (session_itself s) ls e
    ∙ ap suc (sym (count_is s ls)))

pub with_listeners : (s : SessionId) (p : Path) (ls new : List Listener) → IsListeners ls → nat_le (length (paths_of s (with_listener s p ls))) 256 ≡ true → new ≡ with_listener s p ls → IsStrictlySortedBy listener_cmp new → IsListeners new
with_listeners s p ls new held room is sorted = record { ordered = sorted; few = few } where
  few : (t : SessionId) → length (paths_of t new) ≤ 256
  few t = subst (λ l. length (paths_of t l) ≤ 256) (sym is) (by (same_session t s) refl) where
    by : (b : Bool) → same_session t s ≡ b → length (paths_of t (with_listener s p ls)) ≤ 256
    by true e = subst (λ u. length (paths_of u (with_listener s p ls)) ≤ 256) (sym (session_same t s e)) (leb-true _ _ room)
    by false e = subst (λ (ps : List Path). length ps ≤ 256) (sym (with_other s p t ls e)) (held.few t)
