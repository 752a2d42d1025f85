-- The log as a whole.
use Rattle.std.proofs.Common.{sym, subst, refl, ◌≡◌, ℕ, ◌+◌, ◌*◌, ◌≤◌, suc, List, [], ◌∷◌, ◌++◌, length, Bool, true, false, cond, append_assoc, append-nil, arith, length-append, length-drop, Option, Some, None}
use Rattle.std.specs.List.{filter, before_first, position_or_len}
use Rattle.pres_tree.specs.Paths.{Path}
use Rattle.pres_write.specs.Moments as moments
use Rattle.pres_ids.specs.declared.id.SessionId.{SessionId}
use Rattle.pres_ids.specs.Ids.{same_session}
use Rattle.pres_retry.specs.declared.table.Row.{Row}
use Rattle.pres_log.specs.declared.entry.Batch.{Batch}
use Rattle.pres_log.specs.declared.entry.Entry.{Entry}
use Rattle.pres_log.specs.declared.entry.Entry.TheVariants as entry
use Rattle.pres_log.specs.Logs.{Log, entries, last_moment}
use Rattle.pres_log.proofs.Entries.{entries-push, last_moment-push}
use Rattle.pres_ids.specs.declared.id.Why.{Why}
use Rattle.pres_write.specs.declared.basic.Basic.{Basic}
use Rattle.pres_server.specs.declared.input.Input.{Input}
use Rattle.pres_server.specs.Sessions.{session_of}
use Rattle.pres_server.specs.Turns.{Decision, makes, quiet, refused}
use Rattle.pres_history.specs.ServerStates.{ServerState}
use Rattle.pres_history.specs.Sessions.{opens, ends, since_open, count, open_sessions}
use Rattle.pres_history.specs.Listening.{touched}
use Rattle.pres_history.specs.Streams.{stream, push_of, sent_for, sent_from, own_answer, repeated_reply}
use Rattle.pres_history.specs.LegalLog.{MayCome, IsLegal, IsLegalAfter, MayFollow, MayComeTogether, LeavesRoom}
use Rattle.pres_history.specs.Turns.{moment_of, wanted, turn, batch_of, log_after}
use Rattle.pres_history.specs.SessionPlans.{due_at}
use Rattle.pres_history.specs.Laws.{TurnIsLegal, LegalIsSound, EndsAreDue}
use Rattle.pres_history.specs.InternalInvariants.{MayComeInTurn}
use Rattle.pres_history.specs.InternalParts.{Sound}
use Rattle.pres_history.proofs.StreamSteps.{length-numbered_from}
use Rattle.pres_history.proofs.Parts.{uncounted}
use Rattle.pres_history.proofs.AfterEntry.{sound_start, sound_after}
use Rattle.pres_history.proofs.Decide.{AllowedFully, wanted_allowed, limited_allowed}

-- ---- bounds

pub filter_small : {A : Type 0} (p : A → Bool) (xs : List A) → length (filter p xs) ≤ length xs
filter_small p [] = omega arith
filter_small p (x ∷ xs) = by (p x) (filter_small p xs) where
  by : (b : Bool) → length (filter p xs) ≤ length xs → length (cond b (x ∷ filter p xs) (filter p xs)) ≤ suc (length xs)
  by true h = omega arith
  by false h = omega arith

pub count_small : (s : SessionId) (es : List Entry) → count s es ≤ length es
count_small s es =
    let a = filter_small (λ e. same_session s (session_of e)) (since_open s es) in
    let b = length-drop (position_or_len (opens s) es + 1) es in
    omega arith

pub pushed_small : (s : SessionId) (now : List Entry) (paths : List Path) → length (push_of s now paths) ≤ 1
pushed_small s now [] = omega arith
pushed_small s now (p ∷ paths) = omega arith

-- at most a Push and an answer
sent_small : (s : SessionId) (now : List Entry) (e : Entry) → length (sent_for s now e) ≤ 2
sent_small s now e =
    let p = pushed_small s now (touched s now e) in
    let a = by (same_session s (session_of e)) in
    let n = length-append (push_of s now (touched s now e)) (cond (same_session s (session_of e)) (own_answer now e) []) in
    omega arith where
      one : (x : Entry) → length (own_answer now x) ≤ 1
      one (entry.Open t) = omega arith
      one (entry.Op t q n op outcome) = omega arith
      one (entry.Again t q n) = row _ where
        row : (o : Option Row) → length (repeated_reply t (length now) q n o) ≤ 1
        row None = omega arith
        row (Some r) = omega arith
      one (entry.Left t q puts) = omega arith
      one (entry.Cancelled t q path) = omega arith
      one (entry.Denied t q why) = omega arith
      one (entry.On t q path) = omega arith
      one (entry.Off t q path) = omega arith
      one (entry.Ended t q why rows) = omega arith

      by : (b : Bool) → length (cond b (own_answer now e) []) ≤ 1
      by true = one e
      by false = omega arith

sent_from_small : (s : SessionId) (before later : List Entry) → length (sent_from s before later) ≤ 2 * length later
sent_from_small s before [] = omega arith
sent_from_small s before (e ∷ later) =
    let first = sent_small s (before ++ e ∷ []) e in
    let rest = by (ends s e) (sent_from_small s (before ++ e ∷ []) later) in
    let both = length-append (sent_for s (before ++ e ∷ []) e) (cond (ends s e) [] (sent_from s (before ++ e ∷ []) later)) in
    omega arith where
      by : (b : Bool) → length (sent_from s (before ++ e ∷ []) later) ≤ 2 * length later → length (cond b [] (sent_from s (before ++ e ∷ []) later)) ≤ 2 * length later
      by true h = omega arith
      by false h = h

pub stream_small : (s : SessionId) (es : List Entry) → length (stream s es) ≤ 2 * length es
stream_small s es =
    let a = sent_from_small s (before_first (opens s) es ++ entry.Open s ∷ []) (since_open s es) in
    let b = length-drop (position_or_len (opens s) es + 1) es in
    let d = length-numbered_from 1 (sent_from s (before_first (opens s) es ++ entry.Open s ∷ []) (since_open s es)) in
    omega arith

-- ---- entries one after another

-- the entries of a batch that may follow may come one after another
pub follows_in_turn : (es : List Entry) (m : ℕ) (xs : List Entry) → MayComeTogether es m xs → MayComeInTurn es m xs
follows_in_turn es m [] t = absurd t
follows_in_turn es m (e ∷ []) t = (uncounted es m e t.1, tt)
follows_in_turn es m (e ∷ f ∷ []) t = (uncounted es m e t.1, (uncounted (es ++ e ∷ []) m f t.2, tt))
follows_in_turn es m (e ∷ f ∷ g ∷ more) t = absurd t

pub sound_further : (es : List Entry) (m : ℕ) (xs : List Entry) → Sound es → MayComeInTurn es m xs → Sound (es ++ xs)
sound_further es m [] sound f = subst Sound (sym (append-nil es)) sound
sound_further es m (e ∷ xs) sound f = subst Sound (append_assoc es (e ∷ []) xs) (sound_further (es ++ e ∷ []) m xs (sound_after es m e sound f.0) f.1)

-- ---- one batch more

legal-append : (before log : Log) (b : Batch) → IsLegalAfter before log → MayFollow (before ++ log) b → IsLegalAfter before (log ++ b ∷ [])
legal-append before [] b h f = (subst (λ l. MayFollow l b) (append-nil before) f, tt)
legal-append before (a ∷ log) b h f = (h.0, legal-append (before ++ a ∷ []) log b h.1 (subst (λ l. MayFollow l b) (sym (append_assoc before (a ∷ []) log)) f))

pub legal_after : (log : Log) (b : Batch) → IsLegal log → MayFollow log b → IsLegal (log ++ b ∷ [])
legal_after log b h f = legal-append [] log b h f

-- what holds of the first log and of each batch more holds of a legal log
along : (P : Log → Type 0) → ((log : Log) (b : Batch) → P log → MayFollow log b → P (log ++ b ∷ [])) → (before log : Log) → P before → IsLegalAfter before log → P (before ++ log)
along P step before [] start legal = subst P (sym (append-nil before)) start
along P step before (b ∷ log) start legal = subst P (append_assoc before (b ∷ []) log) (along P step (before ++ b ∷ []) log (step before b start legal.0) legal.1)

pub of_legal : (P : Log → Type 0) → P [] → ((log : Log) (b : Batch) → P log → MayFollow log b → P (log ++ b ∷ [])) → (log : Log) → IsLegal log → P log
of_legal P start step log legal = along P step [] log start legal

pub legal_is_sound : (log : Log) → LegalIsSound log
legal_is_sound = of_legal (λ log. Sound (entries log)) sound_start
    (λ log b sound f. subst Sound (sym (entries-push log b)) (sound_further (entries log) b.moment b.entries sound (follows_in_turn (entries log) b.moment b.entries f.allowed)))

-- its moments are in range, and each open session has a number left for its end
pub legal_in_range : (log : Log) → IsLegal log → last_moment log ≤ moments.last_moment
legal_in_range = of_legal (λ log. last_moment log ≤ moments.last_moment) (omega arith)
    (λ log b low f. let last = last_moment-push log b in let range = f.in_range in omega arith)

pub legal_leaves_room : (log : Log) → IsLegal log → LeavesRoom (entries log)
legal_leaves_room = of_legal (λ log. LeavesRoom (entries log)) (let none : length (open_sessions []) ≡ 0 = refl in omega arith)
    (λ log b room f. subst LeavesRoom (sym (entries-push log b)) f.room)

-- ---- ends

-- a batch of a legal log may follow those before it
followed : (before earlier : Log) (b : Batch) (later : Log) → IsLegalAfter before (earlier ++ b ∷ later) → MayFollow (before ++ earlier) b
followed before [] b later h = subst (λ l. MayFollow l b) (sym (append-nil before)) h.0
followed before (a ∷ earlier) b later h = subst (λ l. MayFollow l b) (append_assoc before (a ∷ []) earlier) (followed (before ++ a ∷ []) earlier b later h.1)

due_there : (es : List Entry) (m : ℕ) (s : SessionId) (q : Option ℕ) (why : Why) (rows : List Basic) (more : List Entry) → MayComeTogether es m (entry.Ended s q why rows ∷ more) → rows ≡ due_at es m s
due_there es m s q why rows [] t = let may : MayCome es m (entry.Ended s q why rows) = t.1 in may.2
due_there es m s q why rows (f ∷ []) t = let may : MayCome es m (entry.Ended s q why rows) = t.1 in may.2
due_there es m s q why rows (f ∷ g ∷ more) t = absurd t

pub ends_are_due : (earlier later : Log) (b : Batch) → EndsAreDue earlier b later
ends_are_due earlier later b legal s q why rows more k =
    due_there (entries earlier) b.moment s q why rows more (subst (MayComeTogether (entries earlier) b.moment) k (followed [] earlier b later legal).allowed)

-- ---- turns

-- what a turn makes may follow
pub may_follow : (state : ServerState) (i : Input) (now : ℕ) (xs : List Entry) → IsLegal state.log → turn state i now ≡ makes xs → MayFollow state.log (batch_of state.log (moment_of state.log now) xs)
may_follow state i now xs legal e =
    let log = state.log in
    let es = entries log in
    let m = moment_of log now in
    let full : AllowedFully es m (makes xs) = subst (AllowedFully es m) e (limited_allowed es m (wanted state m i) (wanted_allowed state m i (legal_is_sound log legal))) in
    let range = legal_in_range log legal in
    record { first = refl; not_earlier = omega arith; in_range = omega arith; allowed = full.0; room = full.1 }

pub turn_is_legal : (state : ServerState) (i : Input) (now : ℕ) → TurnIsLegal state i now
turn_is_legal state i now legal = by (turn state i now) refl where
  m : ℕ
  m = moment_of state.log now

  by : (d : Decision) → turn state i now ≡ d → IsLegal (log_after state.log m d)
  by (makes xs) e = legal_after state.log (batch_of state.log m xs) legal (may_follow state i now xs legal e)
  by quiet e = legal
  by (refused c) e = legal
