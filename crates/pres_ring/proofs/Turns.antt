-- What turns make: which are messages, who opens, who ends.
use Rattle.std.proofs.Common.{refl, sym, ◌∙◌, ap, subst, ◌≡◌, ℕ, List, [], ◌∷◌, Bool, true, false, cond, ◌||◌, true≢false, None, filter}
use Rattle.std.specs.List.{list_any}
use Rattle.pres_ids.specs.declared.id.SessionId.{SessionId}
use Rattle.pres_ids.specs.declared.id.Why.{Why}
use Rattle.pres_ids.specs.declared.id.Why.TheVariants as why
use Rattle.pres_ids.specs.Ids.{ClientId, same_session}
use Rattle.pres_wire.specs.declared.up.Up.{Up}
use Rattle.pres_log.specs.declared.entry.Entry.{Entry}
use Rattle.pres_log.specs.Logs.{entries}
use Rattle.pres_server.specs.declared.input.Input.{Input}
use Rattle.pres_server.specs.declared.input.Input.TheVariants as input
use Rattle.pres_history.specs.ServerStates.{ServerState}
use Rattle.pres_server.specs.ServerStates.{late_client}
use Rattle.pres_history.specs.Sessions.{ends, is_open, sessions_of, open_sessions_of}
use Rattle.pres_server.specs.Turns.{Decision, quiet, makes}
use Rattle.pres_history.specs.Turns.{moment_of, end_of, ends_if_open, ends_first, hello, message, limited}
use Rattle.pres_server.proofs.Clients.{client_same, session_itself}
use Rattle.pres_history.proofs.Steps.{or_false, in_open}
use Rattle.pres_ring.specs.Laws.{HelloIsNotQuiet, OnlyHelloOpens, AcceptsOne, NextIsNotQuiet, MadeIsNext, IsEnding, LostEnds, SlowEnds, EndsAtRestart, RestartEnds}
use Rattle.pres_ring.proofs.Made.{same_made, made_within, IsLoud, not_quiet, said, unasked_lost, unasked_first, unasked_late, hello_loud, next_loud}

pub hello_is_not_quiet : (state : ServerState) (s : SessionId) (now : ℕ) → HelloIsNotQuiet state s now
hello_is_not_quiet state s now = let m = moment_of state.log now in not_quiet (entries state.log) (hello (entries state.log) m s) (hello_loud (entries state.log) m s)

pub only_hello_opens : (s : SessionId) (state : ServerState) (i : Input) (now : ℕ) (es : List Entry) → OnlyHelloOpens s state i now es
only_hello_opens s state (input.Up u) now es e = (said (entries state.log) (moment_of state.log now) u es e).1 s
only_hello_opens s state (input.Lost t) now es e = (unasked_lost (entries state.log) (moment_of state.log now) why.Lost t es e).1 s
only_hello_opens s state (input.Slow t) now es e = (unasked_lost (entries state.log) (moment_of state.log now) why.Slow t es e).1 s
only_hello_opens s state (input.Restart c) now es e = (unasked_first (entries state.log) (moment_of state.log now) why.Restart (open_sessions_of c (entries state.log)) es e).1 s
only_hello_opens s state input.Tick now es e = let m = moment_of state.log now in (unasked_late (entries state.log) m (late_client m state.heard) es e).1 s

pub accepts_one : (state : ServerState) (i : Input) (now : ℕ) (es : List Entry) → AcceptsOne state i now es
accepts_one state (input.Up u) now es e = (said (entries state.log) (moment_of state.log now) u es e).0
accepts_one state (input.Lost t) now es e = (unasked_lost (entries state.log) (moment_of state.log now) why.Lost t es e).0
accepts_one state (input.Slow t) now es e = (unasked_lost (entries state.log) (moment_of state.log now) why.Slow t es e).0
accepts_one state (input.Restart c) now es e = (unasked_first (entries state.log) (moment_of state.log now) why.Restart (open_sessions_of c (entries state.log)) es e).0
accepts_one state input.Tick now es e = let m = moment_of state.log now in (unasked_late (entries state.log) m (late_client m state.heard) es e).0

pub next_is_not_quiet : (state : ServerState) (u : Up) (now : ℕ) → NextIsNotQuiet state u now
next_is_not_quiet state u now k = let m = moment_of state.log now in not_quiet (entries state.log) (message (entries state.log) m u) (next_loud (entries state.log) m u k)

pub made_is_next : (state : ServerState) (u : Up) (now : ℕ) (es : List Entry) → MadeIsNext state u now es
made_is_next state u now es h e = (said (entries state.log) (moment_of state.log now) u es e).2 h

-- ---- ends

ending : (s : SessionId) (bs : List Entry) (e : Entry) (d : Decision) → d ≡ makes (e ∷ []) → ends s e ≡ true → IsEnding s e (limited bs d)
ending s bs e d p h = record { not_quiet = not_quiet bs d (subst IsLoud (sym p) tt); alone = alone; ended = λ es k. ap (list_any (ends s)) (alone es k) ∙ or_false (ends s e) ∙ h } where
  alone : (es : List Entry) → limited bs d ≡ makes es → es ≡ e ∷ []
  alone es k = same_made es (e ∷ []) (sym (made_within bs d es k) ∙ p)

open_ends : (bs : List Entry) (m : ℕ) (w : Why) (s : SessionId) → is_open s bs ≡ true → IsEnding s (end_of bs m None w s) (limited bs (ends_if_open bs m w s))
open_ends bs m w s o = ending s bs (end_of bs m None w s) (ends_if_open bs m w s) (ap (λ b. cond b (makes (end_of bs m None w s ∷ [])) quiet) o) (session_itself s)

pub lost_ends : (state : ServerState) (s : SessionId) (now : ℕ) → LostEnds state s now
lost_ends state s now o = open_ends (entries state.log) (moment_of state.log now) why.Lost s o

pub slow_ends : (state : ServerState) (s : SessionId) (now : ℕ) → SlowEnds state s now
slow_ends state s now o = open_ends (entries state.log) (moment_of state.log now) why.Slow s o

none_passes : (p : SessionId → Bool) (ts : List SessionId) → filter p ts ≡ [] → list_any p ts ≡ false
none_passes p [] h = refl
none_passes p (t ∷ ts) h = by (p t) h (none_passes p ts) where
  by : (b : Bool) → cond b (t ∷ filter p ts) (filter p ts) ≡ [] → (filter p ts ≡ [] → list_any p ts ≡ false) → (b || list_any p ts) ≡ false
  by true k f = absurd (cc k)
  by false k f = f k

pub restart_ends : (state : ServerState) (c : ClientId) (now : ℕ) → RestartEnds state c now
restart_ends state c now h = by (open_sessions_of c bs) refl where
  bs : List Entry
  bs = entries state.log

  m : ℕ
  m = moment_of state.log now

  by : (ts : List SessionId) → open_sessions_of c bs ≡ ts → (s : SessionId) × EndsAtRestart state c now s
  by [] k = absurd (true≢false (sym h ∙ none_passes (λ s. is_open s bs) (sessions_of c bs) k))
  by (s ∷ more) k =
      let is = in_open s c bs (ap (list_any (same_session s)) k ∙ ap (λ b. b || list_any (same_session s) more) (session_itself s)) in
      (s, (sym (client_same c s.client is.0), is.1, ending s bs (end_of bs m None why.Restart s) (ends_first bs m why.Restart (open_sessions_of c bs)) (ap (ends_first bs m why.Restart) k) (session_itself s)))
