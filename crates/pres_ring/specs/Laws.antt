-- What holds of every legal log, for who puts a batch's answers on the rings, and of every turn.
use Rattle.std.specs.Prelude.{◌≡◌, ◌≢◌, ◌≤◌, ◌+◌, ◌&&◌, ◌||◌, not, ℕ, true, false, IsTrue, List, [], ◌∷◌, ◌++◌, length, None}
use Rattle.std.specs.List.{list_any}
use mathlib.Core.List.{IsPrefix}
use Rattle.pres_ids.specs.declared.id.SessionId.{SessionId}
use Rattle.pres_ids.specs.declared.id.Why.TheVariants as why
use Rattle.pres_ids.specs.Ids.{ClientId}
use Rattle.pres_wire.specs.declared.up.Up.{Up}
use Rattle.pres_wire.specs.declared.up.Up.TheVariants as up
use Rattle.pres_wire.specs.declared.down.Down.{Down}
use Rattle.pres_log.specs.declared.entry.Batch.{Batch}
use Rattle.pres_log.specs.declared.entry.Entry.{Entry}
use Rattle.pres_log.specs.Logs.{Log, entries}
use Rattle.pres_server.specs.declared.input.Input.{Input}
use Rattle.pres_server.specs.declared.input.Input.TheVariants as input
use Rattle.pres_history.specs.ServerStates.{ServerState}
use Rattle.pres_history.specs.LegalLog.{IsLegal}
use Rattle.pres_history.specs.Sessions.{opens, ends, is_open, has_open}
use Rattle.pres_history.specs.Streams.{answers}
use Rattle.pres_server.specs.Turns.{Decision, quiet, makes}
use Rattle.pres_history.specs.Turns.{moment_of, end_of, turn}
use Rattle.pres_ring.specs.Transcripts.{transcript, those_for, is_gone, is_gone_for, IsWelcome}
use Rattle.pres_ring.specs.AcceptedMessages.{accepted, messages_in, is_hello, is_hello_of, HasNextNumber, IsNextMessage}

-- A batch extends a session's transcript by those of its answers that are for the session.
abbrev pub AnswersExtendTranscripts : SessionId → Log → Batch → Type 0
AnswersExtendTranscripts s log batch = IsLegal (log ++ batch ∷ []) → transcript s (entries (log ++ batch ∷ [])) ≡ transcript s (entries log) ++ those_for s (answers (entries log) batch.entries)

-- No answer of a batch is for a session that isn't open before it, and that it doesn't open.
abbrev pub OthersAreSilent : SessionId → Log → Batch → Type 0
OthersAreSilent s log batch =
    IsLegal (log ++ batch ∷ []) → is_open s (entries log) ≡ false → list_any (opens s) batch.entries ≡ false → those_for s (answers (entries log) batch.entries) ≡ []

-- Nothing follows Gone: a beginning of a transcript that holds it is the whole transcript, whatever entries come later.
abbrev pub GoneIsLast : SessionId → List Down → List Entry → List Entry → Type 0
GoneIsLast s xs es later = IsPrefix xs (transcript s es) → IsTrue (list_any is_gone xs) → transcript s (es ++ later) ≡ xs

-- ---- who is open after a batch

-- A batch's answers tell s that it is gone exactly where the batch ends it.
abbrev pub GoneTells : SessionId → Log → Batch → Type 0
GoneTells s log batch = IsLegal (log ++ batch ∷ []) → list_any (is_gone_for s) (answers (entries log) batch.entries) ≡ list_any (ends s) batch.entries

-- A session is open after a batch where it was and the batch's answers hold no Gone for it, or where the batch opens
-- it.
abbrev pub OpenAfter : SessionId → Log → Batch → Type 0
OpenAfter s log batch =
    IsLegal (log ++ batch ∷ []) → is_open s (entries (log ++ batch ∷ [])) ≡ ((is_open s (entries log) && not (list_any (is_gone_for s) (answers (entries log) batch.entries))) || list_any (opens s) batch.entries)

-- ---- a Hello

-- s was closed and its transcript was empty; of the answers only the last is for s, and that is all that s gets
pub record IsWelcomed (s : SessionId) (before es : List Entry) : Type 0 where
  pub closed : is_open s before ≡ false
  pub untold : transcript s before ≡ []
  pub others : List Down
  pub last : Down
  pub welcome : IsWelcome s last
  pub answered : answers before es ≡ others ++ last ∷ []
  pub silent : those_for s others ≡ []
  pub told_now : transcript s (before ++ es) ≡ last ∷ []

-- A Hello that makes anything is answered by the Welcome of its session, last of all.
abbrev pub HelloIsWelcomed : ServerState → SessionId → ℕ → List Entry → Type 0
HelloIsWelcomed state s now es = IsLegal state.log → turn state (input.Up (up.Hello s)) now ≡ makes es → IsWelcomed s (entries state.log) es

-- A Hello isn't passed over.
abbrev pub HelloIsNotQuiet : ServerState → SessionId → ℕ → Type 0
HelloIsNotQuiet state s now = turn state (input.Up (up.Hello s)) now ≢ quiet

-- What an input makes opens s exactly where it is the Hello of s.
abbrev pub OnlyHelloOpens : SessionId → ServerState → Input → ℕ → List Entry → Type 0
OnlyHelloOpens s state i now es = turn state i now ≡ makes es → list_any (opens s) es ≡ is_hello_of s i

-- ---- accepted messages

-- What an input makes stands for one message where it is one, and else for none.
abbrev pub AcceptsOne : ServerState → Input → ℕ → List Entry → Type 0
AcceptsOne state i now es = turn state i now ≡ makes es → accepted es ≡ messages_in i

-- The messages of two lists of entries are those of the first and those of the second.
abbrev pub AcceptedAdds : List Entry → List Entry → Type 0
AcceptedAdds xs ys = accepted (xs ++ ys) ≡ accepted xs + accepted ys

-- There are no more messages than entries.
abbrev pub AcceptedIsFew : List Entry → Type 0
AcceptedIsFew es = accepted es ≤ length es

-- The next message of a session isn't passed over.
abbrev pub NextIsNotQuiet : ServerState → Up → ℕ → Type 0
NextIsNotQuiet state m now = HasNextNumber m (entries state.log) → turn state (input.Up m) now ≢ quiet

-- A message but a Hello that makes anything is the next one of an open session.
abbrev pub MadeIsNext : ServerState → Up → ℕ → List Entry → Type 0
MadeIsNext state m now es = is_hello m ≡ false → turn state (input.Up m) now ≡ makes es → IsNextMessage m (entries state.log)

-- ---- ends

-- it isn't quiet, and what is made is this entry alone, by which s ends
pub record IsEnding (s : SessionId) (e : Entry) (decision : Decision) : Type 0 where
  pub not_quiet : decision ≢ quiet
  pub alone : (es : List Entry) → decision ≡ makes es → es ≡ e ∷ []
  pub ended : (es : List Entry) → decision ≡ makes es → list_any (ends s) es ≡ true

-- An open session whose connection is lost is ended, unless that is refused.
abbrev pub LostEnds : ServerState → SessionId → ℕ → Type 0
LostEnds state s now =
    is_open s (entries state.log) ≡ true → IsEnding s (end_of (entries state.log) (moment_of state.log now) None why.Lost s) (turn state (input.Lost s) now)

-- So is one that is too slow.
abbrev pub SlowEnds : ServerState → SessionId → ℕ → Type 0
SlowEnds state s now =
    is_open s (entries state.log) ≡ true → IsEnding s (end_of (entries state.log) (moment_of state.log now) None why.Slow s) (turn state (input.Slow s) now)

-- s is an open session of the client, and ends at the restart
abbrev pub EndsAtRestart : ServerState → ClientId → ℕ → SessionId → Type 0
EndsAtRestart state c now s =
    (s.client ≡ c) × (is_open s (entries state.log) ≡ true) × IsEnding s (end_of (entries state.log) (moment_of state.log now) None why.Restart s) (turn state (input.Restart c) now)

-- A restart ends the open session of a client that has one, unless that is refused.
abbrev pub RestartEnds : ServerState → ClientId → ℕ → Type 0
RestartEnds state c now = has_open c (entries state.log) ≡ true → (s : SessionId) × EndsAtRestart state c now s
