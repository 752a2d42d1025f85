-- What one entry more keeps and changes of the whole log.
use Rattle.std.proofs.Common.{refl, sym, ◌∙◌, ap, subst, ◌≡◌, ℕ, ◌+◌, ◌-◌, suc, List, [], ◌∷◌, ◌++◌, length, map, Bool, true, false, not, cond, ◌||◌, ◌&&◌, append-nil, true≢false, arith, IsTrue, Option, Some, None, unwrap_or, T, is_some}
use Rattle.std.specs.List.{list_any, list_all, filter, last_or}
use Rattle.std.specs.Option.{option_map}
use Rattle.std.specs.FinMap.Entries.{find, put, where_key, is_sorted, is_sorted-put, is_sorted-where_key, find-put, find-where_key, length-put, length_without, same_entries}
use Rattle.std.proofs.lemmas.Bool.{and_parts}
use Rattle.std.proofs.lemmas.List.Folds.{list_all-append}
use Rattle.std.proofs.lemmas.List.Elements.{filter_map-append}
use Rattle.pres_write.specs.declared.basic.Basic.{Basic}
use Rattle.pres_ids.specs.declared.id.SessionId.{SessionId}
use Rattle.pres_ids.specs.declared.id.Why.{Why}
use Rattle.pres_log.specs.declared.entry.Entry.{Entry}
use Rattle.pres_log.specs.declared.entry.Entry.TheVariants as entry
use Rattle.pres_tree.specs.Paths.{sorted_by}
use Rattle.pres_ids.specs.Ids.{ClientId, client_cmp, same_client, is_earlier, stamp_of}
use Rattle.pres_server.specs.Sessions.{session_of}
use Rattle.pres_server.specs.InternalParts.{LivePart, Part, IsAsked, session_with, open_step, listed, comes_after}
use Rattle.pres_server.proofs.PlanSteps.{number_in, asked_by}
use Rattle.pres_server.proofs.Clients.{client_same, session_same, clients_total, clients_apart, same_by_cmp, by_client}
use Rattle.pres_history.specs.Sessions.{count, opened_by, opened, opens, ends, is_open, sessions_of, open_entries, open_sessions_of, open_sessions, is_newest, last_of}
use Rattle.pres_history.specs.InternalInvariants.{MayComeUncounted}
use Rattle.pres_history.specs.SessionPlans.{plan}
use Rattle.pres_history.specs.InternalParts.{part_of, part_step, live_step, one_more, live_in, Sound}
use Rattle.pres_history.proofs.Since.{any-append}
use Rattle.pres_history.proofs.Steps.{is_open-same, filter_alike, filter-filter}
use Rattle.pres_history.proofs.Parts.{later_still, not_ended, open_of_same, open_of_opened, only_open, ended_own, ended_other, opened_own, opened_other, no_more, part_after}

-- ---- the order of clients

find_put : (c k : ClientId) (x : SessionId) (es : List (ClientId × SessionId)) → find client_cmp c (put client_cmp k x es) ≡ cond (same_client c k) (Some x) (find client_cmp c es)
find_put c k x es = find-put client_cmp clients_total c k x es ∙ ap (λ b. cond b (Some x) (find client_cmp c es)) (same_by_cmp c k)

-- ---- the sessions after an entry

-- at most one open session, whatever the rest of its part
one_open_from : (c : ClientId) (xs : List SessionId) (es : List Entry) (l : Option LivePart) → xs ≡ listed c l → xs ≡ listed c (live_in xs es)
one_open_from c xs es None e = subst (λ ys. ys ≡ listed c (live_in ys es)) (sym e) refl
one_open_from c xs es (Some l) e = subst (λ ys. ys ≡ listed c (live_in ys es)) (sym e) refl

one_open_same : (c : ClientId) (es fs : List Entry) → Sound es → open_sessions_of c fs ≡ open_sessions_of c es → open_sessions_of c fs ≡ listed c (live_in (open_sessions_of c fs) fs)
one_open_same c es fs sound e = one_open_from c (open_sessions_of c fs) fs (live_in (open_sessions_of c es) es) (e ∙ sound.one_open c)

one_open_after : (es : List Entry) (m : ℕ) (e : Entry) → Sound es → MayComeUncounted es m e → (c : ClientId) → open_sessions_of c (es ++ e ∷ []) ≡ listed c (live_in (open_sessions_of c (es ++ e ∷ [])) (es ++ e ∷ []))
one_open_after es m (entry.Open s) sound f c =
    let e = entry.Open s in
    let opened_now = open_of_opened c es s (not_ended s es sound f.0) in
    elim (same_client c s.client) as (λ b. same_client c s.client ≡ b → open_sessions_of c (es ++ e ∷ []) ≡ listed c (live_in (open_sessions_of c (es ++ e ∷ [])) (es ++ e ∷ []))) [
      | true ↦ λ k.
          let l : LivePart = record { stamp = (stamp_of s); count = 0; plan = [] } in
          let c_is = client_same c s.client k in
          one_open_from c _ (es ++ e ∷ []) (Some l)
          (opened_now ∙ (λ i. (ap (λ x. open_sessions_of x es) c_is ∙ f.1) i ++ cond (k i) (s ∷ []) []) ∙ λ i. (session_with (sym c_is i) (stamp_of s)) ∷ [])
      | false ↦ λ k. one_open_same c es (es ++ e ∷ []) sound (opened_now ∙ ap (λ b. open_sessions_of c es ++ cond b (s ∷ []) []) k ∙ append-nil (open_sessions_of c es))
    ] refl
one_open_after es m (entry.Op s q n op outcome) sound f c = one_open_same c es (es ++ entry.Op s q n op outcome ∷ []) sound (open_of_same c es (entry.Op s q n op outcome) refl (λ _. refl) (λ _. refl))
one_open_after es m (entry.Again s q n) sound f c = one_open_same c es (es ++ entry.Again s q n ∷ []) sound (open_of_same c es (entry.Again s q n) refl (λ _. refl) (λ _. refl))
one_open_after es m (entry.Left s q puts) sound f c = one_open_same c es (es ++ entry.Left s q puts ∷ []) sound (open_of_same c es (entry.Left s q puts) refl (λ _. refl) (λ _. refl))
one_open_after es m (entry.Cancelled s q path) sound f c = one_open_same c es (es ++ entry.Cancelled s q path ∷ []) sound (open_of_same c es (entry.Cancelled s q path) refl (λ _. refl) (λ _. refl))
one_open_after es m (entry.Denied s q why) sound f c = one_open_same c es (es ++ entry.Denied s q why ∷ []) sound (open_of_same c es (entry.Denied s q why) refl (λ _. refl) (λ _. refl))
one_open_after es m (entry.On s q path) sound f c = one_open_same c es (es ++ entry.On s q path ∷ []) sound (open_of_same c es (entry.On s q path) refl (λ _. refl) (λ _. refl))
one_open_after es m (entry.Off s q path) sound f c = one_open_same c es (es ++ entry.Off s q path ∷ []) sound (open_of_same c es (entry.Off s q path) refl (λ _. refl) (λ _. refl))
one_open_after es m (entry.Ended s q why rows) sound f c =
    let e = entry.Ended s q why rows in
    elim (same_client s.client c) as (λ b. same_client s.client c ≡ b → open_sessions_of c (es ++ e ∷ []) ≡ listed c (live_in (open_sessions_of c (es ++ e ∷ [])) (es ++ e ∷ []))) [
      | true ↦ λ k. one_open_from c _ (es ++ e ∷ []) None (ap (λ x. open_sessions_of x (es ++ e ∷ [])) (sym (client_same s.client c k)) ∙ ended_own es s q why rows sound f.0)
      | false ↦ λ k. one_open_same c es (es ++ e ∷ []) sound (ended_other c es s q why rows k)
    ] refl

newest_same : (s : SessionId) (es fs : List Entry) → Sound es → sessions_of s.client fs ≡ sessions_of s.client es → is_newest s fs ≡ comes_after (last_of s.client fs) (stamp_of s)
newest_same s es fs sound e =
    ap (list_all (λ t. is_earlier (stamp_of t) (stamp_of s))) e
    ∙ sound.newest s
    ∙ ap (λ ss. comes_after (option_map (stamp_of) (last_or None ss)) (stamp_of s)) (sym e)

last_or-append : (o : Option SessionId) (xs : List SessionId) (x : SessionId) → last_or o (xs ++ x ∷ []) ≡ Some x
last_or-append o [] x = refl
last_or-append o (y ∷ xs) x = last_or-append (Some y) xs x

newest_after : (es : List Entry) (m : ℕ) (e : Entry) → Sound es → MayComeUncounted es m e → (s : SessionId) → is_newest s (es ++ e ∷ []) ≡ comes_after (last_of s.client (es ++ e ∷ [])) (stamp_of s)
newest_after es m (entry.Open h) sound f s =
    let e = entry.Open h in
    elim (same_client h.client s.client) as (λ b. same_client h.client s.client ≡ b → is_newest s (es ++ e ∷ []) ≡ comes_after (last_of s.client (es ++ e ∷ [])) (stamp_of s)) [
      | true ↦ λ k.
          let c_is = client_same h.client s.client k in
          let ss : sessions_of s.client (es ++ e ∷ []) ≡ sessions_of s.client es ++ h ∷ [] = subst (λ c. sessions_of c (es ++ e ∷ []) ≡ sessions_of c es ++ h ∷ []) c_is (opened_own es h) in
          let was : comes_after (last_of s.client es) (stamp_of h) ≡ true = ap (λ c. comes_after (last_of c es) (stamp_of h)) (sym c_is) ∙ sym (sound.newest h) ∙ f.0 in
          ap (list_all (λ t. is_earlier (stamp_of t) (stamp_of s))) ss
          ∙ list_all-append (λ t. is_earlier (stamp_of t) (stamp_of s)) (sessions_of s.client es) (h ∷ [])
          ∙ ap (λ b. b && (is_earlier (stamp_of h) (stamp_of s) && true)) (sound.newest s)
          ∙ later_still (last_of s.client es) (stamp_of h) (stamp_of s) was
          ∙ ap (λ o. comes_after (option_map (stamp_of) o) (stamp_of s)) (sym (ap (last_or None) ss ∙ last_or-append None (sessions_of s.client es) h))
      | false ↦ λ k. newest_same s es (es ++ e ∷ []) sound (opened_other s.client es h k)
    ] refl
newest_after es m (entry.Op t q n op outcome) sound f s = newest_same s es (es ++ entry.Op t q n op outcome ∷ []) sound (no_more s.client es (entry.Op t q n op outcome) refl)
newest_after es m (entry.Again t q n) sound f s = newest_same s es (es ++ entry.Again t q n ∷ []) sound (no_more s.client es (entry.Again t q n) refl)
newest_after es m (entry.Left t q puts) sound f s = newest_same s es (es ++ entry.Left t q puts ∷ []) sound (no_more s.client es (entry.Left t q puts) refl)
newest_after es m (entry.Cancelled t q path) sound f s = newest_same s es (es ++ entry.Cancelled t q path ∷ []) sound (no_more s.client es (entry.Cancelled t q path) refl)
newest_after es m (entry.Denied t q why) sound f s = newest_same s es (es ++ entry.Denied t q why ∷ []) sound (no_more s.client es (entry.Denied t q why) refl)
newest_after es m (entry.On t q path) sound f s = newest_same s es (es ++ entry.On t q path ∷ []) sound (no_more s.client es (entry.On t q path) refl)
newest_after es m (entry.Off t q path) sound f s = newest_same s es (es ++ entry.Off t q path ∷ []) sound (no_more s.client es (entry.Off t q path) refl)
newest_after es m (entry.Ended t q why rows) sound f s = newest_same s es (es ++ entry.Ended t q why rows ∷ []) sound (no_more s.client es (entry.Ended t q why rows) refl)

any_then : (a b c d : Bool) → (a ≡ true → c ≡ true) → (b ≡ true → c ≡ true) → (a || (b || false)) ≡ true → (c || (d || false)) ≡ true
any_then true b c d f g e = ap (λ x. x || (d || false)) (f refl)
any_then false true c d f g e = ap (λ x. x || (d || false)) (g refl)
any_then false false c d f g e = absurd (true≢false (sym e))

ended_after : (es : List Entry) (m : ℕ) (e : Entry) → Sound es → MayComeUncounted es m e → (s : SessionId) → list_any (ends s) (es ++ e ∷ []) ≡ true → list_any (opens s) (es ++ e ∷ []) ≡ true
ended_after es m e sound f s h =
    any-append (opens s) es (e ∷ []) ∙ any_then (list_any (ends s) es) (ends s e) (list_any (opens s) es) (opens s e) (sound.ended s) (by e f) (sym (any-append (ends s) es (e ∷ [])) ∙ h) where
      by : (x : Entry) → MayComeUncounted es m x → ends s x ≡ true → list_any (opens s) es ≡ true
      by (entry.Open t) g k = absurd (true≢false (sym k))
      by (entry.Op t q n op outcome) g k = absurd (true≢false (sym k))
      by (entry.Again t q n) g k = absurd (true≢false (sym k))
      by (entry.Left t q puts) g k = absurd (true≢false (sym k))
      by (entry.Cancelled t q path) g k = absurd (true≢false (sym k))
      by (entry.Denied t q why) g k = absurd (true≢false (sym k))
      by (entry.On t q path) g k = absurd (true≢false (sym k))
      by (entry.Off t q path) g k = absurd (true≢false (sym k))
      by (entry.Ended t q why rows) g k = ap (λ x. list_any (opens x) es) (session_same s t k) ∙ (and_parts (list_any (opens t) es) _ g.0).0

some_same : (a b : ℕ) → Some b ≡ Some a → a ≡ b
some_same a b k = sym (ap (λ o. unwrap_or o b) k)

-- an action's number is that of the next message
next_number : (es : List Entry) (m : ℕ) (e : Entry) → MayComeUncounted es m e → (q : ℕ) → number_in e ≡ Some q → q ≡ count (session_of e) es + 1
next_number es m (entry.Left s n puts) f q k = some_same q n k ∙ f.0.1
next_number es m (entry.Cancelled s n path) f q k = some_same q n k ∙ f.0.1
next_number es m (entry.Open s) f q k = absurd (cc)
next_number es m (entry.Op s n i op outcome) f q k = absurd (cc)
next_number es m (entry.Again s n i) f q k = absurd (cc)
next_number es m (entry.Denied s n why) f q k = absurd (cc)
next_number es m (entry.On s n path) f q k = absurd (cc)
next_number es m (entry.Off s n path) f q k = absurd (cc)
next_number es m (entry.Ended s n why rows) f q k = absurd (cc)

asked_said : (es : List Entry) (m : ℕ) (e : Entry) → Sound es → MayComeUncounted es m e → is_open (session_of e) es ≡ true → IsAsked (option_map (one_more e) (part_of (session_of e).client es).live)
asked_said es m e sound f o =
    let s = session_of e in
    let only = only_open s es sound o in
    let was : IsAsked (live_in (s ∷ []) es) = subst (λ xs. IsAsked (live_in xs es)) only (sound.asked s.client) in
    subst (λ xs. IsAsked (option_map (one_more e) (live_in xs es))) (sym only) (asked_by (count s es + 1) e (plan s es) (next_number es m e f) was)

-- what the open session leaves after an entry of its own
asked_own : (es : List Entry) (m : ℕ) (e : Entry) → Sound es → MayComeUncounted es m e → IsAsked (live_step e (part_of (session_of e).client es).live)
asked_own es m (entry.Open s) sound f = λ i x small. absurd (omega arith)
asked_own es m (entry.Ended s q why rows) sound f = tt
asked_own es m (entry.Op s q n op outcome) sound f = asked_said es m (entry.Op s q n op outcome) sound f f.0.0
asked_own es m (entry.Again s q n) sound f = asked_said es m (entry.Again s q n) sound f f.0.0
asked_own es m (entry.Left s q puts) sound f = asked_said es m (entry.Left s q puts) sound f f.0.0
asked_own es m (entry.Cancelled s q path) sound f = asked_said es m (entry.Cancelled s q path) sound f f.0.0
asked_own es m (entry.Denied s q why) sound f = asked_said es m (entry.Denied s q why) sound f f.0
asked_own es m (entry.On s q path) sound f = asked_said es m (entry.On s q path) sound f f.0.0
asked_own es m (entry.Off s q path) sound f = asked_said es m (entry.Off s q path) sound f f.0

pub sound_start : Sound []
sound_start = record { one_open = λ c. refl; newest = λ s. refl; ended = λ s h. absurd (true≢false (sym h)); asked = λ c. tt }

pub sound_after : (es : List Entry) (m : ℕ) (e : Entry) → Sound es → MayComeUncounted es m e → Sound (es ++ e ∷ [])
sound_after es m e sound f = record { one_open = one_open_after es m e sound f; newest = newest_after es m e sound f; ended = ended_after es m e sound f; asked = asked } where
  k : ClientId
  k = (session_of e).client

  asked : (c : ClientId) → IsAsked (part_of c (es ++ e ∷ [])).live
  asked c = subst (λ (p : Part). IsAsked p.live) (sym (part_after es m e sound f c)) (by (same_client k c) refl) where
    by : (b : Bool) → same_client k c ≡ b → IsAsked (cond b (part_step (length es + 1) e (part_of c es)) (part_of c es)).live
    by true h = subst (λ x. IsAsked (live_step e (part_of x es).live)) (client_same k c h) (asked_own es m e sound f)
    by false h = sound.asked c

-- the open sessions in order, looked up
abbrev pub first_of_list : List SessionId → Option SessionId
first_of_list [] = None
first_of_list (s ∷ more) = Some s

find_sorted : (c : ClientId) (xs : List SessionId) → find client_cmp c (sorted_by client_cmp (map by_client xs)) ≡ first_of_list (filter (λ s. same_client c s.client) xs)
find_sorted c [] = refl
find_sorted c (x ∷ xs) =
    find_put c x.client x (sorted_by client_cmp (map by_client xs))
    ∙ ap (cond (same_client c x.client) (Some x)) (find_sorted c xs)
    ∙ by (same_client c x.client) (filter (λ s. same_client c s.client) xs) where
      by : (b : Bool) (ys : List SessionId) → cond b (Some x) (first_of_list ys) ≡ first_of_list (cond b (x ∷ ys) ys)
      by true ys = refl
      by false ys = refl

and_swap : (a b : Bool) → (a && b) ≡ (b && a)
and_swap true true = refl
and_swap true false = refl
and_swap false true = refl
and_swap false false = refl

pub find_open : (c : ClientId) (es : List Entry) → find client_cmp c (open_entries es) ≡ first_of_list (open_sessions_of c es)
find_open c es =
    find_sorted c (filter (λ s. is_open s es) (opened es))
    ∙ ap first_of_list (
    filter-filter (λ s. same_client c s.client) (λ s. is_open s es) (opened es)
    ∙ filter_alike (λ s. is_open s es && same_client c s.client) (λ s. same_client c s.client && is_open s es) (opened es) (λ s _. and_swap (is_open s es) (same_client c s.client))
    ∙ sym (filter-filter (λ s. is_open s es) (λ s. same_client c s.client) (opened es)))

pub sorted_is : (xs : List (ClientId × SessionId)) → T (is_sorted client_cmp (sorted_by client_cmp xs))
sorted_is [] = tt
sorted_is (x ∷ xs) = is_sorted-put client_cmp clients_total x.0 x.1 (sorted_by client_cmp xs) (sorted_is xs)

pub open_is_sorted : (es : List Entry) → T (is_sorted client_cmp (open_entries es))
open_is_sorted es = sorted_is (map by_client (filter (λ s. is_open s es) (opened es)))

open_entries_same : (es : List Entry) (e : Entry) → opened (e ∷ []) ≡ [] → ((s : SessionId) → opens s e ≡ false) → ((s : SessionId) → ends s e ≡ false) → open_entries (es ++ e ∷ []) ≡ open_entries es
open_entries_same es e n o f =
    ap (λ l. sorted_by client_cmp (map by_client l)) (
    ap (filter (λ s. is_open s (es ++ e ∷ []))) (filter_map-append opened_by es (e ∷ []) ∙ ap (λ l. opened es ++ l) n ∙ append-nil (opened es))
    ∙ filter_alike (λ s. is_open s (es ++ e ∷ [])) (λ s. is_open s es) (opened es) (λ s _. is_open-same s es e (o s) (f s)))

open_entries_opened : (es : List Entry) (s : SessionId) → Sound es → IsTrue (is_newest s es) → open_sessions_of s.client es ≡ [] → open_entries (es ++ entry.Open s ∷ []) ≡ put client_cmp s.client s (open_entries es)
open_entries_opened es s sound new none =
    same_entries client_cmp clients_total clients_apart _ _ (open_is_sorted (es ++ entry.Open s ∷ [])) (is_sorted-put client_cmp clients_total s.client s (open_entries es) (open_is_sorted es))
    (λ c.
    find_open c (es ++ entry.Open s ∷ [])
    ∙ ap first_of_list (open_of_opened c es s (not_ended s es sound new))
    ∙ by c (same_client c s.client) refl
    ∙ ap (cond (same_client c s.client) (Some s)) (sym (find_open c es))
    ∙ sym (find_put c s.client s (open_entries es))) where
      by : (c : ClientId) (b : Bool) → same_client c s.client ≡ b → first_of_list (open_sessions_of c es ++ cond b (s ∷ []) []) ≡ cond b (Some s) (first_of_list (open_sessions_of c es))
      by c true k = ap (λ l. first_of_list (l ++ s ∷ [])) (ap (λ x. open_sessions_of x es) (client_same c s.client k) ∙ none)
      by c false k = ap first_of_list (append-nil (open_sessions_of c es))

open_entries_ended : (es : List Entry) (s : SessionId) (q : Option ℕ) (why : Why) (rows : List Basic) → Sound es → is_open s es ≡ true →
    open_entries (es ++ entry.Ended s q why rows ∷ []) ≡ where_key client_cmp (λ x. not (same_client s.client x)) (open_entries es)
open_entries_ended es s q why rows sound o =
    same_entries client_cmp clients_total clients_apart _ _ (open_is_sorted (es ++ e ∷ [])) (is_sorted-where_key client_cmp (λ x. not (same_client s.client x)) (open_entries es) (open_is_sorted es))
    (λ c.
    find_open c (es ++ e ∷ [])
    ∙ by c (same_client s.client c) refl
    ∙ ap (λ x. cond (not (same_client s.client c)) x None) (sym (find_open c es))
    ∙ sym (find-where_key client_cmp (λ x. not (same_client s.client x)) c (λ x k. ap (λ y. not (same_client s.client y)) (sym (clients_apart c x k))) (open_entries es))) where
      e : Entry
      e = entry.Ended s q why rows

      by : (c : ClientId) (b : Bool) → same_client s.client c ≡ b → first_of_list (open_sessions_of c (es ++ e ∷ [])) ≡ cond (not b) (first_of_list (open_sessions_of c es)) None
      by c true k = ap first_of_list (ap (λ x. open_sessions_of x (es ++ e ∷ [])) (sym (client_same s.client c k)) ∙ ended_own es s q why rows sound o)
      by c false k = ap first_of_list (ended_other c es s q why rows k)

pub length_open : (es : List Entry) → length (open_sessions es) ≡ length (open_entries es)
length_open es = by (open_entries es) where
  by : (xs : List (ClientId × SessionId)) → length (map (λ (x : ClientId × SessionId). x.1) xs) ≡ length xs
  by [] = refl
  by (x ∷ xs) = ap suc (by xs)

pub open_after : (es : List Entry) (m : ℕ) (e : Entry) → Sound es → MayComeUncounted es m e → length (open_sessions (es ++ e ∷ [])) ≡ open_step e (length (open_sessions es))
open_after es m (entry.Open s) sound f =
    length_open (es ++ entry.Open s ∷ [])
    ∙ ap length (open_entries_opened es s sound f.0 f.1)
    ∙ length-put client_cmp clients_total s.client s (open_entries es) (open_is_sorted es)
    ∙ ap (λ o. cond (is_some o) (length (open_entries es)) (length (open_entries es) + 1)) (find_open s.client es ∙ ap first_of_list f.1)
    ∙ ap (λ n. n + 1) (sym (length_open es))
open_after es m (entry.Op s q n op outcome) sound f = ap (λ l. length (map (λ (x : ClientId × SessionId). x.1) l)) (open_entries_same es (entry.Op s q n op outcome) refl (λ _. refl) (λ _. refl))
open_after es m (entry.Again s q n) sound f = ap (λ l. length (map (λ (x : ClientId × SessionId). x.1) l)) (open_entries_same es (entry.Again s q n) refl (λ _. refl) (λ _. refl))
open_after es m (entry.Left s q puts) sound f = ap (λ l. length (map (λ (x : ClientId × SessionId). x.1) l)) (open_entries_same es (entry.Left s q puts) refl (λ _. refl) (λ _. refl))
open_after es m (entry.Cancelled s q path) sound f = ap (λ l. length (map (λ (x : ClientId × SessionId). x.1) l)) (open_entries_same es (entry.Cancelled s q path) refl (λ _. refl) (λ _. refl))
open_after es m (entry.Denied s q why) sound f = ap (λ l. length (map (λ (x : ClientId × SessionId). x.1) l)) (open_entries_same es (entry.Denied s q why) refl (λ _. refl) (λ _. refl))
open_after es m (entry.On s q path) sound f = ap (λ l. length (map (λ (x : ClientId × SessionId). x.1) l)) (open_entries_same es (entry.On s q path) refl (λ _. refl) (λ _. refl))
open_after es m (entry.Off s q path) sound f = ap (λ l. length (map (λ (x : ClientId × SessionId). x.1) l)) (open_entries_same es (entry.Off s q path) refl (λ _. refl) (λ _. refl))
open_after es m (entry.Ended s q why rows) sound f =
    let found : find client_cmp s.client (open_entries es) ≡ Some s = find_open s.client es ∙ ap first_of_list (only_open s es sound f.0) in
    let rest : 1 + length (where_key client_cmp (λ x. not (same_client s.client x)) (open_entries es)) ≡ length (open_entries es) =
    ap (λ o. cond (is_some o) 1 0 + length (where_key client_cmp (λ x. not (same_client s.client x)) (open_entries es))) (sym found)
    ∙ (λ i. cond (is_some (find client_cmp s.client (open_entries es))) 1 0 + length (where_key client_cmp (λ x. not (sym (same_by_cmp s.client x) i)) (open_entries es)))
    ∙ length_without client_cmp clients_total s.client (open_entries es) (open_is_sorted es) in
    let less : length (where_key client_cmp (λ x. not (same_client s.client x)) (open_entries es)) ≡ length (open_entries es) - 1 = omega arith in
    length_open (es ++ entry.Ended s q why rows ∷ []) ∙ ap length (open_entries_ended es s q why rows sound f.0) ∙ less ∙ ap (λ n. n - 1) (sym (length_open es))
