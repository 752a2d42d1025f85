-- The entries of a client stand in the order of its sessions.
use Rattle.std.proofs.Common.{refl, sym, ◌∙◌, ap, ◌≡◌, ◌<◌, ◌≤◌, ℕ, length, not, unwrap_or, List, [], ◌∷◌, ◌++◌, Bool, true, false, ◌||◌, ◌&&◌, ◌⊎◌, inl, inr, Some, true≢false, arith, IsTrue, slice_get, take}
use Rattle.std.specs.List.{list_any}
use Rattle.std.proofs.lemmas.Bool.{and_parts, false_from_ne_true, cases_order}
use Rattle.pres_ids.specs.declared.id.SessionId.{SessionId}
use Rattle.pres_ids.specs.declared.id.Stamp.{Stamp}
use Rattle.pres_ids.specs.Ids.{ClientId, is_earlier, same_client, same_session, stamp_of}
use Rattle.pres_log.specs.declared.entry.Entry.{Entry}
use Rattle.pres_log.specs.declared.entry.Entry.TheVariants as entry
use Rattle.pres_log.specs.Logs.{Log, entries}
use Rattle.pres_history.specs.LegalLog.{MayCome, IsLegal}
use Rattle.pres_history.specs.Sessions.{opens, ends, is_open, opened, sessions_of, open_sessions_of}
use Rattle.pres_server.specs.Sessions.{session_of}
use Rattle.pres_history.proofs.Since.{any-append}
use Rattle.pres_server.proofs.Clients.{client_itself, session_same, session_itself}
use Rattle.pres_history.proofs.Steps.{In, is_open-append, any-filter, any-opened, open_listed}
use Rattle.pres_history.proofs.Parts.{all_in, not_earlier, earlier_still}
use Rattle.pres_world.proofs.Stands.{StandsMay, stands_may, prefix_rule, got_small, found_before, found_still}

-- no later session than an open one was opened by its client
abbrev OpenIsNewest : List Entry → Type 0
OpenIsNewest es = (s t : SessionId) → is_open s es ≡ true → list_any (opens t) es ≡ true → s.client ≡ t.client → is_earlier (stamp_of s) (stamp_of t) ≡ false

opened_among : (t : SessionId) (c : ClientId) (es : List Entry) → list_any (opens t) es ≡ true → t.client ≡ c → In t (sessions_of c es)
opened_among t c es o same = any-filter t (λ x. same_client c x.client) (opened es) ∙ (λ i. (ap (same_client c) same ∙ client_itself c) i && any-opened t es i) ∙ o

closed : (x u : SessionId) (es : List Entry) → open_sessions_of u.client es ≡ [] → x.client ≡ u.client → is_open x es ≡ false
closed x u es none same = sym (open_listed x es) ∙ ap (λ c. list_any (same_session x) (open_sessions_of c es)) same ∙ ap (list_any (same_session x)) none

kept_open : (s : SessionId) (es : List Entry) (e : Entry) → opens s e ≡ false → is_open s (es ++ e ∷ []) ≡ true → is_open s es ≡ true
kept_open s es e none o = by (list_any (opens s) es) (opens s e) (list_any (ends s) es) (ends s e) none (sym (is_open-append s es e) ∙ o) where
  by : (a b c d : Bool) → b ≡ false → ((a || b) && not (c || d)) ≡ true → (a && not c) ≡ true
  by true b false d n h = refl
  by true b true d n h = absurd (true≢false (sym h))
  by false true c d n h = absurd (true≢false n)
  by false false c d n h = absurd (true≢false (sym h))

opened_still : (t : SessionId) (es : List Entry) (e : Entry) → opens t e ≡ false → list_any (opens t) (es ++ e ∷ []) ≡ true → list_any (opens t) es ≡ true
opened_still t es e none o = by (list_any (opens t) es) (opens t e) none (sym (any-append (opens t) es (e ∷ [])) ∙ o) where
  by : (a b : Bool) → b ≡ false → (a || (b || false)) ≡ true → a ≡ true
  by true b n h = refl
  by false true n h = absurd (true≢false n)
  by false false n h = h

one_way : (a b : Stamp) → is_earlier a b ≡ true → is_earlier b a ≡ false
one_way a b e = false_from_ne_true _ (λ h. true≢false (sym (earlier_still a b a e h) ∙ not_earlier a))

not_opening : (es : List Entry) (e : Entry) → ((t : SessionId) → opens t e ≡ false) → OpenIsNewest es → OpenIsNewest (es ++ e ∷ [])
not_opening es e none h s t o k c = h s t (kept_open s es e (none s) o) (opened_still t es e (none t) k) c

opening : (es : List Entry) (m : ℕ) (u : SessionId) → MayCome es m (entry.Open u) → OpenIsNewest es → OpenIsNewest (es ++ entry.Open u ∷ [])
opening es m u may h s t o k c = by (same_session s u) refl (same_session t u) refl where
  by : (a : Bool) → same_session s u ≡ a → (b : Bool) → same_session t u ≡ b → is_earlier (stamp_of s) (stamp_of t) ≡ false
  by true e true f = (λ i. is_earlier (stamp_of (session_same s u e i)) (stamp_of (session_same t u f i))) ∙ not_earlier (stamp_of u)
  by true e false f =
      let su = session_same s u e in
      let among = opened_among t u.client es (opened_still t es (entry.Open u) f k) (sym c ∙ ap (λ x. x.client) su) in
      ap (λ x. is_earlier (stamp_of x) (stamp_of t)) su ∙ one_way (stamp_of t) (stamp_of u) (all_in (λ x. is_earlier (stamp_of x) (stamp_of u)) t (sessions_of u.client es) may.0 among)
  by false e true f = absurd (true≢false (sym (kept_open s es (entry.Open u) e o) ∙ closed s u es may.1 (c ∙ ap (λ x. x.client) (session_same t u f))))
  by false e false f = h s t (kept_open s es (entry.Open u) e o) (opened_still t es (entry.Open u) f k) c

newest_more : (es : List Entry) (m : ℕ) (e : Entry) → OpenIsNewest es → MayCome es m e → OpenIsNewest (es ++ e ∷ [])
newest_more es m (entry.Open u) h may = opening es m u may h
newest_more es m (entry.Op s q n op outcome) h may = not_opening es (entry.Op s q n op outcome) (λ t. refl) h
newest_more es m (entry.Again s q n) h may = not_opening es (entry.Again s q n) (λ t. refl) h
newest_more es m (entry.Left s q puts) h may = not_opening es (entry.Left s q puts) (λ t. refl) h
newest_more es m (entry.Cancelled s q path) h may = not_opening es (entry.Cancelled s q path) (λ t. refl) h
newest_more es m (entry.Denied s q why) h may = not_opening es (entry.Denied s q why) (λ t. refl) h
newest_more es m (entry.On s q path) h may = not_opening es (entry.On s q path) (λ t. refl) h
newest_more es m (entry.Off s q path) h may = not_opening es (entry.Off s q path) (λ t. refl) h
newest_more es m (entry.Ended s q why rows) h may = not_opening es (entry.Ended s q why rows) (λ t. refl) h

none_open : OpenIsNewest []
none_open s t o k c = absurd (true≢false (sym o))

pub open_is_newest : (log : Log) → IsLegal log → (i : ℕ) → i ≤ length (entries log) → OpenIsNewest (take i (entries log))
open_is_newest = prefix_rule OpenIsNewest none_open newest_more

-- an entry's session is opened before it, or by it
opened_before : (before : List Entry) (m : ℕ) (e : Entry) → MayCome before m e → (list_any (opens (session_of e)) before ≡ true) ⊎ (opens (session_of e) e ≡ true)
opened_before before m (entry.Open s) may = inr (session_itself s)
opened_before before m (entry.Op s q n op outcome) may = inl (and_parts (list_any (opens s) before) _ may.0.0).0
opened_before before m (entry.Again s q n) may = inl (and_parts (list_any (opens s) before) _ may.0.0).0
opened_before before m (entry.Left s q puts) may = inl (and_parts (list_any (opens s) before) _ may.0.0).0
opened_before before m (entry.Cancelled s q path) may = inl (and_parts (list_any (opens s) before) _ may.0.0).0
opened_before before m (entry.Denied s q why) may = inl (and_parts (list_any (opens s) before) _ may.0).0
opened_before before m (entry.On s q path) may = inl (and_parts (list_any (opens s) before) _ may.0.0).0
opened_before before m (entry.Off s q path) may = inl (and_parts (list_any (opens s) before) _ may.0).0
opened_before before m (entry.Ended s q why rows) may = inl (and_parts (list_any (opens s) before) _ may.0).0

opened_by_then : (es : List Entry) → StandsMay es → (j i : ℕ) (e : Entry) → slice_get es j ≡ Some e → j < i → list_any (opens (session_of e)) (take i es) ≡ true
opened_by_then es stands j i e at less = from (opened_before (take j es) (stands j e at).0 e (stands j e at).1) where
  from : (list_any (opens (session_of e)) (take j es) ≡ true) ⊎ (opens (session_of e) e ≡ true) → list_any (opens (session_of e)) (take i es) ≡ true
  from (inl h) = found_still (opens (session_of e)) es j i e at less h
  from (inr h) = found_before (opens (session_of e)) es j i e at less h

-- no later session of its client was opened before an entry that may come
none_later : (before : List Entry) (m : ℕ) (e : Entry) → OpenIsNewest before → MayCome before m e → (t : SessionId) → list_any (opens t) before ≡ true → (session_of e).client ≡ t.client → is_earlier (stamp_of (session_of e)) (stamp_of t) ≡ false
none_later before m (entry.Open s) newest may t o same = one_way (stamp_of t) (stamp_of s) (all_in (λ x. is_earlier (stamp_of x) (stamp_of s)) t (sessions_of s.client before) may.0 (opened_among t s.client before o (sym same)))
none_later before m (entry.Op s q n op outcome) newest may t o same = newest s t may.0.0 o same
none_later before m (entry.Again s q n) newest may t o same = newest s t may.0.0 o same
none_later before m (entry.Left s q puts) newest may t o same = newest s t may.0.0 o same
none_later before m (entry.Cancelled s q path) newest may t o same = newest s t may.0.0 o same
none_later before m (entry.Denied s q why) newest may t o same = newest s t may.0 o same
none_later before m (entry.On s q path) newest may t o same = newest s t may.0.0 o same
none_later before m (entry.Off s q path) newest may t o same = newest s t may.0 o same
none_later before m (entry.Ended s q why rows) newest may t o same = newest s t may.0 o same

pub earlier_first : (log : Log) → IsLegal log → (i j : ℕ) (e f : Entry) → slice_get (entries log) i ≡ Some e → slice_get (entries log) j ≡ Some f → (session_of e).client ≡ (session_of f).client → IsTrue (is_earlier (stamp_of (session_of e)) (stamp_of (session_of f))) → i < j
earlier_first log legal i j e f a b same earlier = by_order (cases_order i j) where
  by_order : (i ≡ j) ⊎ ((i < j) ⊎ (j < i)) → i < j
  by_order (inl is) =
      let found : Some f ≡ Some e = sym b ∙ ap (slice_get (entries log)) (sym is) ∙ a in
      let it : session_of f ≡ session_of e = ap (λ o. session_of (unwrap_or o f)) found in
      absurd (true≢false (sym earlier ∙ ap (λ t. is_earlier (stamp_of (session_of e)) (stamp_of t)) it ∙ not_earlier (stamp_of (session_of e))))
  by_order (inr (inl less)) = less
  by_order (inr (inr more)) =
      let stands = stands_may log legal in
      let may = stands i e a in
      let small = got_small (entries log) i e a in
      absurd (true≢false (sym earlier ∙ none_later (take i (entries log)) may.0 e (open_is_newest log legal i (omega (arith, small))) may.1 (session_of f) (opened_by_then (entries log) stands j i f b more) same))
