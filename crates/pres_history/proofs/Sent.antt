-- How many messages one entry more sends to the open session of each client.
use Rattle.std.proofs.Common.{refl, sym, ◌∙◌, ap, subst, ◌≡◌, ℕ, ◌+◌, ◌≤◌, List, [], ◌∷◌, ◌++◌, length, Bool, true, false, cond, ◌||◌, ◌&&◌, ◌==◌, append-nil, arith, IsTrue, length-append, Option, Some, None}
use Rattle.std.specs.List.{list_any, before_first}
use Rattle.std.specs.Option.{option_map}
use Rattle.pres_ids.specs.declared.id.SessionId.{SessionId}
use Rattle.pres_ids.specs.Ids.{ClientId, same_client, same_session}
use Rattle.pres_log.specs.declared.entry.Entry.{Entry}
use Rattle.pres_log.specs.declared.entry.Entry.TheVariants as entry
use Rattle.pres_server.specs.Sessions.{session_of}
use Rattle.pres_server.specs.Answering.{Unnumbered}
use Rattle.pres_server.proofs.Clients.{client_same, client_itself, client_sym, session_itself}
use Rattle.pres_history.specs.Sessions.{opened, opens, ends, is_open, is_newest, open_sessions_of}
use Rattle.pres_history.specs.Outcomes.{ops}
use Rattle.pres_history.specs.Listening.{touched}
use Rattle.pres_history.specs.Streams.{push_of, own_answer, sent_from, numbered_from, stream}
use Rattle.pres_history.specs.InternalParts.{sent_in, sent_of, Sound}
use Rattle.pres_history.specs.InternalInvariants.{MayComeUncounted}
use Rattle.pres_history.proofs.StreamSteps.{stream_step, length-numbered_from}
use Rattle.pres_history.proofs.Steps.{In, in_open}
use Rattle.pres_history.proofs.Parts.{open_of_same, only_open, not_opened, not_ended, open_of_opened, fresh_count, row_there, own_again, ended_own, ended_other}

-- the number of Pushes that it makes to the session
abbrev pub push_count : SessionId → List Entry → Entry → ℕ
push_count s es e = length (push_of s (es ++ e ∷ []) (touched s (es ++ e ∷ []) e))

-- the messages to the open session with the Push of the entry, and without its answer
abbrev pub sent_between : List SessionId → List Entry → Entry → Option ℕ
sent_between [] es e = None
sent_between (s ∷ more) es e = Some (length (stream s es) + push_count s es e)

-- and with its answer, where it is an entry of that session
abbrev pub sent_step : Entry → Option ℕ → Option ℕ
sent_step (entry.Open s) sent = Some 0
sent_step (entry.Ended s q why rows) sent = None
sent_step e sent = option_map (λ n. n + 1) sent

length-step : (s : SessionId) (es : List Entry) (e : Entry) → is_open s es ≡ true → (b : Bool) → same_session s (session_of e) ≡ b
    → length (stream s (es ++ e ∷ [])) ≡ length (stream s es) + push_count s es e + length (cond b (own_answer (es ++ e ∷ []) e) [])
length-step s es e o b k =
    let sent : List Unnumbered = push_of s (es ++ e ∷ []) (touched s (es ++ e ∷ []) e) ++ cond (same_session s (session_of e)) (own_answer (es ++ e ∷ []) e) [] in
    let a : length (stream s (es ++ e ∷ [])) ≡ length (stream s es ++ numbered_from (length (stream s es) + 1) sent) = ap length (stream_step s es e o) in
    let c = length-append (stream s es) (numbered_from (length (stream s es) + 1) sent) in
    let d = length-numbered_from (length (stream s es) + 1) sent in
    let f = length-append (push_of s (es ++ e ∷ []) (touched s (es ++ e ∷ []) e)) (cond (same_session s (session_of e)) (own_answer (es ++ e ∷ []) e) []) in
    let g : length (cond (same_session s (session_of e)) (own_answer (es ++ e ∷ []) e) []) ≡ length (cond b (own_answer (es ++ e ∷ []) e) []) = ap (λ x. length (cond x (own_answer (es ++ e ∷ []) e) [])) k in
    omega arith

-- a client's open session, where the entry is of another client
sent_other : (c : ClientId) (es : List Entry) (e : Entry) → same_client (session_of e).client c ≡ false → open_sessions_of c (es ++ e ∷ []) ≡ open_sessions_of c es
    → sent_of c (es ++ e ∷ []) ≡ sent_between (open_sessions_of c es) es e
sent_other c es e k same = ap (λ l. sent_in l (es ++ e ∷ [])) same ∙ by (open_sessions_of c es) (λ g. in_open g c es) where
  by : (xs : List SessionId) → ((g : SessionId) → In g xs → (same_client c g.client ≡ true) × (is_open g es ≡ true)) → sent_in xs (es ++ e ∷ []) ≡ sent_between xs es e
  by [] h = refl
  by (g ∷ more) h =
      let a = h g (ap (λ b. b || list_any (same_session g) more) (session_itself g)) in
      let apart : same_client g.client (session_of e).client ≡ false = ap (λ x. same_client x (session_of e).client) (sym (client_same c g.client a.0)) ∙ client_sym c (session_of e).client ∙ k in
      let other : same_session g (session_of e) ≡ false = ap (λ b. b && g.incarnation == (session_of e).incarnation && g.attempt == (session_of e).attempt) apart in
      let n : length (stream g (es ++ e ∷ [])) ≡ length (stream g es) + push_count g es e + 0 = length-step g es e a.1 false other in
      let m : length (stream g (es ++ e ∷ [])) ≡ length (stream g es) + push_count g es e = omega arith in
      ap Some m

-- and where it is an entry of that session that is answered once
sent_own : (s : SessionId) (es : List Entry) (e : Entry) → Sound es → is_open s es ≡ true → session_of e ≡ s → open_sessions_of s.client (es ++ e ∷ []) ≡ open_sessions_of s.client es
    → length (own_answer (es ++ e ∷ []) e) ≡ 1 → sent_of s.client (es ++ e ∷ []) ≡ option_map (λ n. n + 1) (sent_between (open_sessions_of s.client es) es e)
sent_own s es e sound o k same one =
    let only = only_open s es sound o in
    let n = length-step s es e o true (ap (same_session s) k ∙ session_itself s) in
    let m : length (stream s (es ++ e ∷ [])) ≡ length (stream s es) + push_count s es e + 1 = omega arith in
    ap (λ l. sent_in l (es ++ e ∷ [])) (same ∙ only) ∙ ap Some m ∙ sym (ap (λ l. option_map (λ n. n + 1) (sent_between l es e)) only)

sent_said : (es : List Entry) (e : Entry) → Sound es → is_open (session_of e) es ≡ true → opened (e ∷ []) ≡ [] → ((s : SessionId) → opens s e ≡ false) → ((s : SessionId) → ends s e ≡ false)
    → length (own_answer (es ++ e ∷ []) e) ≡ 1 → (c : ClientId)
    → sent_of c (es ++ e ∷ []) ≡ cond (same_client (session_of e).client c) (option_map (λ n. n + 1) (sent_between (open_sessions_of c es) es e)) (sent_between (open_sessions_of c es) es e)
sent_said es e sound o none opens_none ends_none one c = by (same_client (session_of e).client c) refl where
  s : SessionId
  s = session_of e

  by : (b : Bool) → same_client s.client c ≡ b → sent_of c (es ++ e ∷ []) ≡ cond b (option_map (λ n. n + 1) (sent_between (open_sessions_of c es) es e)) (sent_between (open_sessions_of c es) es e)
  by true k =
      subst (λ x. sent_of x (es ++ e ∷ []) ≡ option_map (λ n. n + 1) (sent_between (open_sessions_of x es) es e)) (client_same s.client c k)
      (sent_own s es e sound o refl (open_of_same s.client es e none opens_none ends_none) one)
  by false k = sent_other c es e k (open_of_same c es e none opens_none ends_none)

sent_opened : (es : List Entry) (s : SessionId) → Sound es → IsTrue (is_newest s es) → open_sessions_of s.client es ≡ [] → (c : ClientId) → let e = entry.Open s in
    sent_of c (es ++ e ∷ []) ≡ cond (same_client s.client c) (Some 0) (sent_between (open_sessions_of c es) es e)
sent_opened es s sound new none c = by (same_client s.client c) refl where
  e : Entry
  e = entry.Open s

  opened_now : (d : ClientId) → open_sessions_of d (es ++ e ∷ []) ≡ open_sessions_of d es ++ cond (same_client d s.client) (s ∷ []) []
  opened_now d = open_of_opened d es s (not_ended s es sound new)

  own : sent_of s.client (es ++ e ∷ []) ≡ Some 0
  own =
      ap (λ l. sent_in l (es ++ e ∷ [])) (opened_now s.client ∙ (λ i. none i ++ cond (client_itself s.client i) (s ∷ []) []))
      ∙ ap (λ l. Some (length (numbered_from 1 (sent_from s (before_first (opens s) (es ++ e ∷ []) ++ e ∷ []) l)))) (fresh_count es s (not_opened s es new))

  by : (b : Bool) → same_client s.client c ≡ b → sent_of c (es ++ e ∷ []) ≡ cond b (Some 0) (sent_between (open_sessions_of c es) es e)
  by true k = subst (λ x. sent_of x (es ++ e ∷ []) ≡ Some 0) (client_same s.client c k) own
  by false k = sent_other c es e k (opened_now c ∙ ap (λ b. open_sessions_of c es ++ cond b (s ∷ []) []) (client_sym c s.client ∙ k) ∙ append-nil (open_sessions_of c es))

one_again : (es : List Entry) (s : SessionId) (q n : ℕ) → 1 ≤ n → n ≤ ops s.client es → length (own_answer (es ++ entry.Again s q n ∷ []) (entry.Again s q n)) ≡ 1
one_again es s q n low high = let row = row_there es s.client n low high in ap length (own_again es s q n row.0 row.1)

-- the step of what was sent to each client's open session
pub sent_after : (es : List Entry) (m : ℕ) (e : Entry) → Sound es → MayComeUncounted es m e → (c : ClientId)
    → sent_of c (es ++ e ∷ []) ≡ cond (same_client (session_of e).client c) (sent_step e (sent_between (open_sessions_of c es) es e)) (sent_between (open_sessions_of c es) es e)
sent_after es m (entry.Open s) sound f c = sent_opened es s sound f.0 f.1 c
sent_after es m (entry.Op s q n op outcome) sound f c = sent_said es (entry.Op s q n op outcome) sound f.0.0 refl (λ _. refl) (λ _. refl) refl c
sent_after es m (entry.Again s q n) sound f c = sent_said es (entry.Again s q n) sound f.0.0 refl (λ _. refl) (λ _. refl) (one_again es s q n f.1 f.2) c
sent_after es m (entry.Left s q puts) sound f c = sent_said es (entry.Left s q puts) sound f.0.0 refl (λ _. refl) (λ _. refl) refl c
sent_after es m (entry.Cancelled s q path) sound f c = sent_said es (entry.Cancelled s q path) sound f.0.0 refl (λ _. refl) (λ _. refl) refl c
sent_after es m (entry.Denied s q why) sound f c = sent_said es (entry.Denied s q why) sound f.0 refl (λ _. refl) (λ _. refl) refl c
sent_after es m (entry.On s q path) sound f c = sent_said es (entry.On s q path) sound f.0.0 refl (λ _. refl) (λ _. refl) refl c
sent_after es m (entry.Off s q path) sound f c = sent_said es (entry.Off s q path) sound f.0 refl (λ _. refl) (λ _. refl) refl c
sent_after es m (entry.Ended s q why rows) sound f c = by (same_client s.client c) refl where
  e : Entry
  e = entry.Ended s q why rows

  by : (b : Bool) → same_client s.client c ≡ b → sent_of c (es ++ e ∷ []) ≡ cond b None (sent_between (open_sessions_of c es) es e)
  by true k = subst (λ x. sent_of x (es ++ e ∷ []) ≡ None) (client_same s.client c k) (ap (λ l. sent_in l (es ++ e ∷ [])) (ended_own es s q why rows sound f.0))
  by false k = sent_other c es e k (ended_other c es s q why rows k)
