-- Which of the answers of an entry are for a session.
use Rattle.std.proofs.Common.{refl, sym, ◌∙◌, ap, subst, ◌≡◌, ℕ, ◌+◌, ◌-◌, List, [], ◌∷◌, ◌++◌, map, filter, length, Bool, true, false, not, cond, ◌||◌, ◌&&◌, ◌==◌, true≢false, append-nil, Option, Some, None, slice_get, T, Ordering, Less, Equal, Greater, is_eq, drop, arith}
use Rattle.std.specs.List.{list_any, flat_map, AllByRecursion}
use Rattle.std.specs.Ordering.{is_lt}
use Rattle.std.specs.FinMap.Entries.{by_order, find, put, below_all, is_sorted}
use Rattle.std.proofs.lemmas.List.Elements.{filter-append}
use Rattle.pres_tree.specs.Paths.{Path, sorted_by}
use Rattle.pres_ids.specs.declared.id.SessionId.{SessionId}
use Rattle.pres_ids.specs.Ids.{ClientId, client_cmp, same_client, same_session}
use Rattle.pres_wire.specs.declared.down.Down.{Down}
use Rattle.pres_wire.specs.Messages.{session_for}
use Rattle.pres_retry.specs.declared.table.Row.{Row}
use Rattle.pres_log.specs.declared.entry.Entry.{Entry}
use Rattle.pres_log.specs.declared.entry.Entry.TheVariants as entry
use Rattle.pres_server.specs.Sessions.{session_of}
use Rattle.pres_history.specs.Sessions.{opened, is_open, open_entries, open_sessions, open_sessions_of}
use Rattle.pres_history.specs.Outcomes.{rows_for}
use Rattle.pres_history.specs.Listening.{touched}
use Rattle.pres_history.specs.Streams.{push_of, repeated_reply, own_answer, sent_for, numbered_from, stream, added, is_push, own_added}
use Rattle.pres_history.specs.InternalParts.{Sound}
use Rattle.pres_server.proofs.Clients.{client_same, session_same, session_itself, clients_apart, same_by_cmp, by_client}
use Rattle.pres_history.proofs.Steps.{In, in_open}
use Rattle.pres_history.proofs.Parts.{only_open}
use Rattle.pres_history.proofs.AfterEntry.{first_of_list, find_open, open_is_sorted}
use Rattle.pres_history.proofs.Sent.{push_count}
use Rattle.pres_history.proofs.StreamSteps.{stream_step}
use Rattle.pres_history.proofs.Answers.{pushes_added}
use Rattle.pres_ring.specs.Transcripts.{names, those_for}

pub those-append : (s : SessionId) (xs ys : List Down) → those_for s (xs ++ ys) ≡ those_for s xs ++ those_for s ys
those-append s xs ys = filter-append (λ m. names s (session_for m)) xs ys

pub cond_none : (b : Bool) → cond {A = List Down} b [] [] ≡ []
cond_none true = refl
cond_none false = refl

-- a Push is for the session that it was made for, an answer for that of its entry
push_for : (s t : SessionId) (now : List Entry) (ps : List Path) (r : ℕ) → those_for s (numbered_from r (push_of t now ps)) ≡ cond (same_session s t) (numbered_from r (push_of t now ps)) []
push_for s t now [] r = sym (cond_none (same_session s t))
push_for s t now (p ∷ ps) r = refl

own_for : (s : SessionId) (now : List Entry) (e : Entry) (r : ℕ) → those_for s (numbered_from r (own_answer now e)) ≡ cond (same_session s (session_of e)) (numbered_from r (own_answer now e)) []
own_for s now (entry.Open t) r = sym (cond_none (same_session s t))
own_for s now (entry.Op t q n op outcome) r = refl
own_for s now (entry.Again t q n) r = by (slice_get (rows_for t.client now) (n - 1)) where
  by : (o : Option Row) → those_for s (numbered_from r (repeated_reply t (length now) q n o)) ≡ cond (same_session s t) (numbered_from r (repeated_reply t (length now) q n o)) []
  by None = sym (cond_none (same_session s t))
  by (Some row) = refl
own_for s now (entry.Left t q puts) r = refl
own_for s now (entry.Cancelled t q path) r = refl
own_for s now (entry.Denied t q why) r = refl
own_for s now (entry.On t q path) r = refl
own_for s now (entry.Off t q path) r = refl
own_for s now (entry.Ended t q why rows) r = refl

-- ---- lists in order of clients

first : (a b : Bool) → T (a && b) → T a
first true b p = tt
first false b p = p

second : (a b : Bool) → T (a && b) → T b
second true b p = p
second false b p = absurd p

less : (o : Ordering) → T (is_lt o) → o ≡ Less
less Less p = refl
less Equal p = absurd p
less Greater p = absurd p

-- a client below each of a list is not found in it
none_below : (c : ClientId) (xs : List (ClientId × SessionId)) → T (below_all client_cmp c xs) → find client_cmp c xs ≡ None
none_below c [] h = refl
none_below c (x ∷ xs) h =
    ap (λ o. cond (is_eq o) (Some x.1) (find client_cmp c xs)) (less (client_cmp c x.0) (first (is_lt (client_cmp c x.0)) (below_all client_cmp c xs) h))
    ∙ none_below c xs (second (is_lt (client_cmp c x.0)) (below_all client_cmp c xs) h)

all_put : (P : ClientId × SessionId → Type 0) (k : ClientId) (v : SessionId) (xs : List (ClientId × SessionId)) → P (k, v) → AllByRecursion P xs → AllByRecursion P (put client_cmp k v xs)
all_put P k v [] p a = (p, tt)
all_put P k v (x ∷ xs) p a = by (client_cmp k x.0) refl (all_put P k v xs p a.1) where
  by : (o : Ordering) → client_cmp k x.0 ≡ o → AllByRecursion P (put client_cmp k v xs) → AllByRecursion P (by_order o ((k, v) ∷ x ∷ xs) ((x.0, v) ∷ xs) (x ∷ put client_cmp k v xs))
  by Less e r = (p, a)
  by Equal e r = (subst (λ c. P (c, v)) (clients_apart k x.0 e) p, a.1)
  by Greater e r = (a.0, r)

all_sorted : (P : ClientId × SessionId → Type 0) (xs : List (ClientId × SessionId)) → AllByRecursion P xs → AllByRecursion P (sorted_by client_cmp xs)
all_sorted P [] a = tt
all_sorted P (x ∷ xs) a = all_put P x.0 x.1 (sorted_by client_cmp xs) a.0 (all_sorted P xs a.1)

all_filtered : (P : ClientId × SessionId → Type 0) (p : SessionId → Bool) (xs : List SessionId) → ((t : SessionId) → p t ≡ true → P (t.client, t)) → AllByRecursion P (map by_client (filter p xs))
all_filtered P p [] h = tt
all_filtered P p (x ∷ xs) h = by (p x) refl (all_filtered P p xs h) where
  by : (b : Bool) → p x ≡ b → AllByRecursion P (map by_client (filter p xs)) → AllByRecursion P (map by_client (cond b (x ∷ filter p xs) (filter p xs)))
  by true e r = (h x e, r)
  by false e r = r

-- ---- of what is made for each open session, that of s

-- it is paired with its client, and f makes messages for it alone
abbrev IsMadeBy : SessionId → (SessionId → List Down) → ClientId × SessionId → Type 0
IsMadeBy s f x = (x.0 ≡ x.1.client) × (those_for s (f x.1) ≡ cond (same_session s x.1) (f x.1) [])

abbrev of_found : SessionId → (SessionId → List Down) → Option SessionId → List Down
of_found s f None = []
of_found s f (Some t) = cond (same_session s t) (f t) []

picked : (s : SessionId) (f : SessionId → List Down) (xs : List (ClientId × SessionId)) → T (is_sorted client_cmp xs) → AllByRecursion (IsMadeBy s f) xs
    → those_for s (flat_map f (map (λ (x : ClientId × SessionId). x.1) xs)) ≡ of_found s f (find client_cmp s.client xs)
picked s f [] h a = refl
picked s f (x ∷ xs) h a =
    those-append s (f x.1) (flat_map f (map (λ (y : ClientId × SessionId). y.1) xs))
    ∙ (λ i. a.0.1 i ++ picked s f xs (second (below_all client_cmp x.0 xs) (is_sorted client_cmp xs) h) a.1 i)
    ∙ by (same_client s.client x.0) refl
    ∙ ap (λ b. of_found s f (cond b (Some x.1) (find client_cmp s.client xs))) (sym (same_by_cmp s.client x.0)) where
      by : (b : Bool) → same_client s.client x.0 ≡ b → cond (same_session s x.1) (f x.1) [] ++ of_found s f (find client_cmp s.client xs) ≡ of_found s f (cond (same_client s.client x.0) (Some x.1) (find client_cmp s.client xs))
      by true k =
          ap (λ o. cond (same_session s x.1) (f x.1) [] ++ of_found s f o) (subst (λ c. find client_cmp c xs ≡ None) (sym (client_same s.client x.0 k)) (none_below x.0 xs (first (below_all client_cmp x.0 xs) (is_sorted client_cmp xs) h)))
          ∙ append-nil (cond (same_session s x.1) (f x.1) [])
          ∙ ap (λ b. of_found s f (cond b (Some x.1) (find client_cmp s.client xs))) (sym k)
      by false k =
          let apart : same_session s x.1 ≡ false = ap (λ b. b && s.incarnation == x.1.incarnation && s.attempt == x.1.attempt) (ap (same_client s.client) (sym a.0.0) ∙ k) in
          ap (λ b. cond b (f x.1) [] ++ of_found s f (find client_cmp s.client xs)) apart
          ∙ ap (λ b. of_found s f (cond b (Some x.1) (find client_cmp s.client xs))) (sym k)

-- the Pushes of an entry that are for s
pub pushes_for : (s : SessionId) (es : List Entry) (e : Entry) → Sound es → those_for s (flat_map (λ t. filter is_push (added t es e)) (open_sessions es)) ≡ cond (is_open s es) (filter is_push (added s es e)) []
pushes_for s es e sound =
    picked s made (open_entries es) (open_is_sorted es) all_made
    ∙ ap (of_found s made) (find_open s.client es)
    ∙ by (is_open s es) refl where
      made : SessionId → List Down
      made t = filter is_push (added t es e)

      all_made : AllByRecursion (IsMadeBy s made) (open_entries es)
      all_made =
          all_sorted (IsMadeBy s made) (map by_client (filter (λ t. is_open t es) (opened es)))
          (all_filtered (IsMadeBy s made) (λ t. is_open t es) (opened es)
          (λ t o. (refl, subst (λ l. those_for s l ≡ cond (same_session s t) l []) (sym (pushes_added t es e o)) (push_for s t (es ++ e ∷ []) (touched t (es ++ e ∷ []) e) (length (stream t es) + 1)))))

      none : (xs : List SessionId) → is_open s es ≡ false → ((t : SessionId) → In t xs → (same_client s.client t.client ≡ true) × (is_open t es ≡ true)) → of_found s made (first_of_list xs) ≡ []
      none [] o h = refl
      none (t ∷ more) o h = by_same (same_session s t) refl where
        by_same : (b : Bool) → same_session s t ≡ b → cond b (made t) [] ≡ []
        by_same true k = absurd (true≢false (sym (h t (ap (λ b. b || list_any (same_session t) more) (session_itself t))).1 ∙ ap (λ u. is_open u es) (sym (session_same s t k)) ∙ o))
        by_same false k = refl

      by : (b : Bool) → is_open s es ≡ b → of_found s made (first_of_list (open_sessions_of s.client es)) ≡ cond b (made s) []
      by true o = ap (λ l. of_found s made (first_of_list l)) (only_open s es sound o) ∙ ap (λ b. cond b (made s) []) (session_itself s)
      by false o = none (open_sessions_of s.client es) o (λ t. in_open t s.client es)

-- ---- the answer to an entry's own session

drop_first : (xs ys : List Down) → drop (length xs) (xs ++ ys) ≡ ys
drop_first [] ys = refl
drop_first (x ∷ xs) ys = drop_first xs ys

-- an answer is no Push
answers_stay : (now : List Entry) (e : Entry) (r : ℕ) → filter (λ m. not (is_push m)) (numbered_from r (own_answer now e)) ≡ numbered_from r (own_answer now e)
answers_stay now (entry.Open t) r = refl
answers_stay now (entry.Op t q n op outcome) r = refl
answers_stay now (entry.Again t q n) r = by (slice_get (rows_for t.client now) (n - 1)) where
  by : (o : Option Row) → filter (λ m. not (is_push m)) (numbered_from r (repeated_reply t (length now) q n o)) ≡ numbered_from r (repeated_reply t (length now) q n o)
  by None = refl
  by (Some row) = refl
answers_stay now (entry.Left t q puts) r = refl
answers_stay now (entry.Cancelled t q path) r = refl
answers_stay now (entry.Denied t q why) r = refl
answers_stay now (entry.On t q path) r = refl
answers_stay now (entry.Off t q path) r = refl
answers_stay now (entry.Ended t q why rows) r = refl

-- it has the number after the Push that the session gets of the entry
pub own_number : (es : List Entry) (e : Entry) → is_open (session_of e) es ≡ true
    → filter (λ m. not (is_push m)) (added (session_of e) es e) ≡ numbered_from (length (stream (session_of e) es) + push_count (session_of e) es e + 1) (own_answer (es ++ e ∷ []) e)
own_number es e o =
    ap (filter (λ m. not (is_push m))) (
    ap (drop (length (stream t es))) (stream_step t es e o)
    ∙ drop_first (stream t es) (numbered_from r (sent_for t now e))
    ∙ ap (λ b. numbered_from r (push_of t now (touched t now e) ++ cond b (own_answer now e) [])) (session_itself t))
    ∙ by (touched t now e) where
      t : SessionId
      t = session_of e

      now : List Entry
      now = es ++ e ∷ []

      r : ℕ
      r = length (stream t es) + 1

      by : (ps : List Path) → filter (λ m. not (is_push m)) (numbered_from r (push_of t now ps ++ own_answer now e)) ≡ numbered_from (length (stream t es) + length (push_of t now ps) + 1) (own_answer now e)
      by [] = let n : length (stream t es) + 1 ≡ length (stream t es) + 0 + 1 = omega arith in answers_stay now e r ∙ ap (λ k. numbered_from k (own_answer now e)) n
      by (p ∷ ps) = answers_stay now e (r + 1)

-- so it is for s where the entry is one of s it is one of an open session
pub own_part : (s : SessionId) (es : List Entry) (e : Entry) → is_open (session_of e) es ≡ true → own_added es e ≡ filter (λ m. not (is_push m)) (added (session_of e) es e)
    → those_for s (own_added es e) ≡ cond (same_session s (session_of e)) (numbered_from (length (stream s es) + push_count s es e + 1) (own_answer (es ++ e ∷ []) e)) []
own_part s es e o same =
    ap (those_for s) (same ∙ own_number es e o)
    ∙ own_for s (es ++ e ∷ []) e (length (stream (session_of e) es) + push_count (session_of e) es e + 1)
    ∙ by (same_session s (session_of e)) refl where
      by : (b : Bool) → same_session s (session_of e) ≡ b
          → cond b (numbered_from (length (stream (session_of e) es) + push_count (session_of e) es e + 1) (own_answer (es ++ e ∷ []) e)) []
          ≡ cond b (numbered_from (length (stream s es) + push_count s es e + 1) (own_answer (es ++ e ∷ []) e)) []
      by true k = ap (λ t. numbered_from (length (stream t es) + push_count t es e + 1) (own_answer (es ++ e ∷ []) e)) (sym (session_same s (session_of e) k))
      by false k = refl
