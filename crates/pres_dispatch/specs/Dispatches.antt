-- A server's engine with the lines of its sessions.
use Rattle.std.specs.Prelude.{◌≡◌, ◌⊎◌, ℕ, Bool, true, false, List, [], ◌∷◌, ◌++◌, Option, Some, None, is_some, option_map, IfSome}
use Rattle.std.proofs.Common.{inl, inr}
use Rattle.pres_ids.specs.declared.id.SessionId.{SessionId}
use Rattle.pres_ids.specs.declared.id.Why.TheVariants as why
use Rattle.pres_wire.specs.declared.up.Up.TheVariants as up
use Rattle.pres_wire.specs.declared.down.Down.{Down}
use Rattle.pres_log.specs.declared.entry.Entry.{Entry}
use Rattle.pres_log.specs.Logs.{Log}
use Rattle.pres_server.specs.declared.input.Input.{Input}
use Rattle.pres_server.specs.declared.input.Input.TheVariants as input
use Rattle.pres_server.specs.ServerStates.{first_client}
use Rattle.pres_server.specs.Replays.{resumed}
use Rattle.pres_server.specs.Turns.{makes}
use Rattle.pres_server.specs.Sums.{Sum, is_open_in, sum_from}
use Rattle.pres_server.specs.Histories.{History, LeadsTo, begun_at, with_batches}
use Rattle.pres_server.specs.SumStates.{SumState}
use Rattle.pres_server.specs.SumAnswers.{answers_by}
use Rattle.pres_server.specs.SumTurns.{turn_by, moment_by, after_commit}
use Rattle.pres_ids.specs.Ids.{ClientId, same_session}
use Rattle.pres_ring.specs.RingEnds.{OutboxState}
use Rattle.pres_ring.specs.Transcripts.{those_for, IsWelcome}
use Rattle.pres_ring.specs.HistoryTranscripts.{IsClosed, transcript_in, BeginsTranscriptIn}
use Rattle.pres_ring.specs.Lines.{SessionLine, Lines, line_at, is_slow, marked, IsFirstSlow, ChangesAt}
use Rattle.pres_ring.specs.Deliveries.{LineAfter, LineFits}
use Rattle.pres_faults.specs.declared.saved_fault.SavedFault.{SavedFault}
use Rattle.pres_keeper.specs.Keepers.{Readable, IsNoServer, number_in}
use Rattle.pres_keeper.specs.Engines.{EngineState, Runs}
use Rattle.pres_keeper.specs.EngineTurns.{IsTurnDone, IsTurnRefused, history_turned, history_left, history_checkpointed}
use Rattle.pres_faults.specs.declared.engine_fault.EngineFault.{EngineFault}
use Rattle.pres_faults.specs.declared.engine_fault.EngineFault.TheVariants as refusal

-- the engine, and what was put for each session
pub record DispatcherState (A : Type 0) : Type 0 where
  pub run : EngineState A
  pub lines : Lines

-- ---- where a server's sum comes from

-- the history that the keeper keeps, and the one since the dispatcher's start, by which the transcripts of sessions are
-- told
pub record Histories : Type 0 where
  pub kept : History
  pub since_start : History

-- both are changed so
abbrev pub both : (History → History) → Histories → Histories
both change histories = record { kept = change histories.kept; since_start = change histories.since_start }

-- both with these batches more
abbrev pub both_with : Histories → Log → Histories
both_with histories later = both (λ history. with_batches history later) histories

-- both lead to the sum, and at the start no session was open
pub record Explains (histories : Histories) (sum : Sum) : Type 0 where
  pub kept : LeadsTo histories.kept sum
  pub since_start : LeadsTo histories.since_start sum
  pub closed : IsClosed histories.since_start

-- the sum to which a history's batches lead
abbrev pub last_sum : History → Sum
last_sum history = sum_from history.base history.log

-- at a start the keeper keeps this history, and there are no batches since
abbrev pub started_with : History → Histories
started_with history = record { kept = history; since_start = begun_at (last_sum history) }

-- with the batch of the turn that the input asks for
abbrev pub histories_turned : Histories → Option SumState → Input → ℕ → Histories
histories_turned histories old input now = both (λ history. history_turned history old input now) histories

-- A checkpoint changes what is kept alone.
abbrev pub histories_checkpointed : Histories → Option SumState → Option ℕ → Histories
histories_checkpointed histories server number = record { kept = history_checkpointed histories.kept server number; since_start = histories.since_start }

-- ---- a server and its lines

-- a line is an open session's, and what was put on it is that session's transcript
abbrev pub CarriesTranscript : History → Sum → SessionId → Option SessionLine → Type 0
CarriesTranscript history sum s None = is_open_in s sum ≡ false
CarriesTranscript history sum s (Some l) = (is_open_in s sum ≡ true) × IfSome l.sent (λ sent. sent ≡ transcript_in s history)

-- the lines are those of the open sessions
abbrev pub CarryTranscripts : History → Sum → Lines → Type 0
CarryTranscripts history sum lines = (s : SessionId) → CarriesTranscript history sum s (line_at s lines)

-- the keeper keeps the history as long as it works, which has as many entries as were answered
pub record IsKept {A : Type 0} (works : A → Type 0) (keeps : A → History → Type 0) (run : EngineState A) (history : History) : Type 0 where
  pub held : works run.keeper → keeps run.keeper history
  pub counted : run.number ≡ number_in history

-- The histories that explain a server and its lines: both lead to the server's sum, the keeper keeps the one as long as it
-- works, and what was put on each line is what the other sends to that line's session.
pub record StandsBehind {A : Type 0} (works : A → Type 0) (keeps : A → History → Type 0) (held : DispatcherState A) (s : SumState) (histories : Histories) : Type 0 where
  pub explains : Explains histories s.sum
  pub kept : IsKept works keeps held.run histories.kept
  pub told : CarryTranscripts histories.since_start s.sum held.lines

-- while the server runs, these histories do
abbrev pub Stands : {A : Type 0} → (A → Type 0) → (A → History → Type 0) → Histories → DispatcherState A → Type 0
Stands works keeps histories held = Runs (λ s. StandsBehind works keeps held s histories) held.run.server

-- while it runs, some do
abbrev pub SomeStands : {A : Type 0} → (A → Type 0) → (A → History → Type 0) → DispatcherState A → Type 0
SomeStands works keeps held = Runs (λ s. (histories : Histories) × StandsBehind works keeps held s histories) held.run.server

-- each line whose messages were given up is marked
abbrev pub NoneSlow : Lines → Type 0
NoneSlow lines = (s : SessionId) → IfSome (line_at s lines) (λ l. is_slow l ≡ false)

-- a line that is marked stays so while it is there, and none comes where there is none
abbrev pub StaysMarked : Option SessionLine → Option SessionLine → Type 0
StaysMarked None after = after ≡ None
StaysMarked (Some l) after = is_some l.mark ≡ true → IfSome after (λ new. is_some new.mark ≡ true)

-- so it is with each line
abbrev pub StayMarked : Lines → Lines → Type 0
StayMarked before after = (s : SessionId) → StaysMarked (line_at s before) (line_at s after)

-- it opens no session
abbrev pub is_hello : Input → Bool
is_hello (input.Up (up.Hello s)) = true
is_hello _ = false

-- the turn is done, and its answers are put on the lines, none of which gives one up where 256 were put at most
abbrev pub IsAnswered : Option SumState → Input → ℕ → Option SumState → Lines → Lines → Type 0
IsAnswered old input now new before after =
    (outs : List Down) × IsTurnDone old input now new outs
    × ((s : SessionId) → LineAfter s outs (line_at s before) (line_at s after))
    × ((s : SessionId) → LineFits s outs (line_at s before) (line_at s after))

-- the input isn't answered: memory is refused with the server as it was, or its turn isn't done
abbrev pub IsNotAnswered : Option SumState → Input → ℕ → Option SumState → EngineFault → Type 0
IsNotAnswered old input now new refusal.Memory = new ≡ old
IsNotAnswered old input now new (refusal.Refused f) = IsTurnRefused old input now new (refusal.Refused f)
IsNotAnswered old input now new (refusal.Keeper f) = IsTurnRefused old input now new (refusal.Keeper f)
IsNotAnswered old input now new refusal.Down = IsTurnRefused old input now new refusal.Down

-- ---- a session that is opened

-- of the answers only the last is for s, and that is all that s gets
pub record LastIsFor (s : SessionId) (ms : List Down) : Type 0 where
  pub others : List Down
  pub last : Down
  pub parted : ms ≡ others ++ last ∷ []
  pub welcome : IsWelcome s last
  pub silent : those_for s others ≡ []
  pub told : BeginsTranscriptIn s (last ∷ [])

-- the line of s has the last of these messages, which the outbox gives first, and the other lines were put theirs
pub record LinesJoined (s : SessionId) (ms : List Down) (before after : Lines) (end : OutboxState) : Type 0 where
  pub earlier : List Down
  pub last : Down
  pub parted : ms ≡ earlier ++ last ∷ []
  pub own : line_at s after ≡ Some (record { sent = Some (last ∷ []); mark = None })
  pub others : (t : SessionId) → same_session t s ≡ false → LineAfter t ms (line_at t before) (line_at t after)
  pub fits : (t : SessionId) → same_session t s ≡ false → LineFits t ms (line_at t before) (line_at t after)
  pub outbox : end ≡ record { session = s; taken = []; ahead = last ∷ [] }

-- the Hello of s is done, and its answers are put on the lines; after that s has a line of its own
pub record IsJoined (s : SessionId) (now : ℕ) (old new : Option SumState) (before after : Lines) (end : OutboxState) : Type 0 where
  pub state : SumState
  pub made : List Entry
  pub ran : old ≡ Some state
  pub turned : turn_by state (input.Up (up.Hello s)) now ≡ makes made
  pub runs : new ≡ Some (after_commit state (moment_by state.sum now) made)
  pub lines : LinesJoined s (answers_by state.sum made) before after end

-- a session isn't opened, as its Hello isn't answered
abbrev pub IsNotJoined : SessionId → ℕ → Option SumState → Option SumState → EngineFault → Type 0
IsNotJoined s now old new e = IsNotAnswered old (input.Up (up.Hello s)) now new e

-- ---- sessions that are slow

-- The first session in order whose line is slow is open. Its line is marked so, and its end is answered on the lines; or
-- it isn't, and the line stays marked.
pub record EndsFirstSlow (now : ℕ) (s : SessionId) (old new : Option SumState) (before after : Lines) : Type 0 where
  pub first : IsFirstSlow s before
  pub opened : Runs (λ t. is_open_in s t.sum ≡ true) old
  pub middle : Lines
  pub marks : ChangesAt s (option_map (marked why.Slow)) before middle
  pub ended : IsAnswered old (input.Slow s) now new middle after ⊎ ((e : EngineFault) × IsNotAnswered old (input.Slow s) now new e × (after ≡ middle))

-- these sessions are ended as slow, one after the other, until no line is slow
abbrev pub EndsSlow : ℕ → List SessionId → Option SumState → Option SumState → Lines → Lines → Type 0
EndsSlow now [] old new before after = (new ≡ old) × (after ≡ before) × NoneSlow after
EndsSlow now (s ∷ ss) old new before after =
    (middle : Option SumState) × (lines : Lines) × EndsFirstSlow now s old middle before lines × EndsSlow now ss middle new lines after

-- each session whose line is slow is ended, in order
pub record AreEnded (now : ℕ) (old new : Option SumState) (before after : Lines) : Type 0 where
  pub sessions : List SessionId
  pub ends : EndsSlow now sessions old new before after

-- the history after an end that is answered, or after one that isn't
abbrev pub history_if : {A B : Type 0} → A ⊎ B → History → History → History
history_if (inl answered) made same = made
history_if (inr unanswered) made same = same

-- the history after these ends, one after the other
abbrev pub history_slow : History → (now : ℕ) (ss : List SessionId) (old new : Option SumState) (before after : Lines) → EndsSlow now ss old new before after → History
history_slow history now [] old new before after ends = history
history_slow history now (s ∷ ss) old new before after ends =
    history_slow (history_if ends.2.ended (history_turned history old (input.Slow s) now) history) now ss ends.0 new ends.1 after ends.3

abbrev pub history_ended : {now : ℕ} {old new : Option SumState} {before after : Lines} → History → AreEnded now old new before after → History
history_ended {now} {old} {new} {before} {after} history ended = history_slow history now ended.sessions old new before after ended.ends

abbrev pub histories_ended : {now : ℕ} {old new : Option SumState} {before after : Lines} → Histories → AreEnded now old new before after → Histories
histories_ended histories ended = both (λ history. history_ended history ended) histories

-- ---- the start

-- each of these clients is the first in byte order that has a session open, which is ended at the restart, one after the other
abbrev pub EndsAtStart : ℕ → List ClientId → Option SumState → Option SumState → Type 0
EndsAtStart now [] old new = new ≡ old
EndsAtStart now (c ∷ cs) None new = ⊥
EndsAtStart now (c ∷ cs) (Some s) new =
    (first_client s.heard ≡ Some c) × (es : List Entry) × (turn_by s (input.Restart c) now ≡ makes es) × EndsAtStart now cs (Some (after_commit s (moment_by s.sum now) es)) new

-- so are those of some
pub record AreRestarted (now : ℕ) (old new : Option SumState) : Type 0 where
  pub clients : List ClientId
  pub ends : EndsAtStart now clients old new

-- the history after these ends
abbrev pub history_at_start : History → (now : ℕ) (cs : List ClientId) (old new : Option SumState) → EndsAtStart now cs old new → History
history_at_start history now [] old new ends = history
history_at_start history now (c ∷ cs) None new ends = history
history_at_start history now (c ∷ cs) (Some s) new ends =
    history_at_start (history_turned history (Some s) (input.Restart c) now) now cs (Some (after_commit s (moment_by s.sum now) ends.1)) new ends.3

abbrev pub history_restarted : {now : ℕ} {old new : Option SumState} → History → AreRestarted now old new → History
history_restarted {now} {old} {new} history ended = history_at_start history now ended.clients old new ended.ends

-- no client is handed out: there is no server, or memory is refused for the first one that has a session open
abbrev pub IsNoClient : Option SumState → EngineFault → Type 0
IsNoClient None e = e ≡ refusal.Down
IsNoClient (Some s) e = (e ≡ refusal.Memory) × (c : ClientId) × (first_client s.heard ≡ Some c)

-- A start over this history stops at the first client in byte order that has a session open, whose end isn't answered. The
-- ends before it stand and are kept, and so is this one where the server went down after its commit.
pub record StopsAtStart (keeps : History → Type 0) (now : ℕ) (history : History) (old : Option SumState) (e : EngineFault) : Type 0 where
  pub middle : Option SumState
  pub ended : AreRestarted now old middle
  pub client : ClientId
  pub first : Runs (λ s. first_client s.heard ≡ Some client) middle
  pub new : Option SumState
  pub refused : IsNotAnswered middle (input.Restart client) now new e
  pub kept : keeps (history_left (history_restarted history ended) middle (input.Restart client) now e)

-- A start is refused: no server is made of what can be read of the keeper, which keeps its history, if it holds one; or one
-- is made of the sum of that history, and the start stops at a client.
abbrev pub IsNotStarted : Readable → (History → Type 0) → (History → Type 0) → ℕ → EngineFault → Type 0
IsNotStarted held kept keeps now e =
    ((f : SavedFault) × (e ≡ refusal.Keeper f) × IsNoServer held f × ((history : History) → kept history → keeps history))
    ⊎ ((history : History) × ((other : History) → kept other → history ≡ other) × StopsAtStart keeps now history (Some (resumed (last_sum history))) e)
