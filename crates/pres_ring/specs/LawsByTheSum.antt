-- What holds of every server's sum, and of a history that leads to it, for who puts a batch's answers on the rings; and of
-- every turn by the sum.
use Rattle.std.specs.Prelude.{◌≡◌, ◌≢◌, ◌≤◌, ◌+◌, ◌&&◌, ◌||◌, not, ℕ, true, false, IsTrue, List, [], ◌∷◌, ◌++◌, None}
use Rattle.std.specs.List.{list_any}
use mathlib.Core.List.{IsPrefix}
use Rattle.pres_ids.specs.declared.id.SessionId.{SessionId}
use Rattle.pres_ids.specs.declared.id.Why.{Why}
use Rattle.pres_ids.specs.declared.id.Why.TheVariants as why
use Rattle.pres_ids.specs.Ids.{ClientId}
use Rattle.pres_wire.specs.declared.up.Up.{Up}
use Rattle.pres_wire.specs.declared.up.Up.TheVariants as up
use Rattle.pres_wire.specs.declared.down.Down.{Down}
use Rattle.pres_log.specs.declared.entry.Batch.{Batch}
use Rattle.pres_log.specs.declared.entry.Entry.{Entry}
use Rattle.pres_log.specs.Logs.{Log, entries}
use Rattle.pres_server.specs.declared.input.Input.{Input}
use Rattle.pres_server.specs.declared.input.Input.TheVariants as input
use Rattle.pres_server.specs.Turns.{quiet, makes}
use Rattle.pres_server.specs.InternalParts.{end_by}
use Rattle.pres_server.specs.Sums.{Sum, part_in, is_open_in, has_open_in, sum_with, sum_of}
use Rattle.pres_server.specs.SumStates.{SumState}
use Rattle.pres_server.specs.SumAnswers.{answers_by}
use Rattle.pres_server.specs.SumTurns.{FollowsSum, FollowAll, moment_by, turn_by, batch_by}
use Rattle.pres_server.specs.Histories.{IsSum, History, LeadsTo, whole, with_batch, with_batches}
use Rattle.pres_history.specs.LegalLog.{IsLegal}
use Rattle.pres_history.specs.Sessions.{opens, ends}
use Rattle.pres_history.specs.SumLaws.{IsReached}
use Rattle.pres_ring.specs.Transcripts.{transcript, those_for, is_gone, is_gone_for, IsWelcome, StartsWithWelcome, BeginsTranscript}
use Rattle.pres_ring.specs.AcceptedMessages.{accepted, messages_in, is_hello, is_hello_of}
use Rattle.pres_ring.specs.Laws.{IsEnding}
use Rattle.pres_ring.specs.HistoryTranscripts.{IsClosed, was_opened_in, transcript_in, BeginsTranscriptIn, IsNextMessageIn, accepted_since}

-- ---- transcripts

-- A batch extends a session's transcript by those of its answers that are for the session.
abbrev pub AnswersExtendTranscriptsIn : SessionId → History → Sum → Batch → Type 0
AnswersExtendTranscriptsIn s history sum batch =
    LeadsTo history sum → FollowsSum sum batch → transcript_in s (with_batch history batch) ≡ transcript_in s history ++ those_for s (answers_by sum batch.entries)

-- No answer of a batch is for a session that isn't open before it, and that it doesn't open.
abbrev pub OthersAreSilentIn : SessionId → Sum → Batch → Type 0
OthersAreSilentIn s sum batch = IsSum sum → FollowsSum sum batch → is_open_in s sum ≡ false → list_any (opens s) batch.entries ≡ false → those_for s (answers_by sum batch.entries) ≡ []

-- What was sent to an open session since a base at which none was open begins a transcript of it.
abbrev pub OpenBegins : SessionId → History → Sum → Type 0
OpenBegins s history sum = IsClosed history → LeadsTo history sum → is_open_in s sum ≡ true → BeginsTranscriptIn s (transcript_in s history)

-- So does that with what a batch answers to it.
abbrev pub AnswersBegin : SessionId → History → Sum → Batch → Type 0
AnswersBegin s history sum batch =
    IsClosed history → LeadsTo history sum → FollowsSum sum batch → is_open_in s sum ≡ true → BeginsTranscriptIn s (transcript_in s history ++ those_for s (answers_by sum batch.entries))

-- it begins with the Welcome of s where s was opened since the base, and is empty where it wasn't
pub record TranscriptBegins (s : SessionId) (history : History) : Type 0 where
  pub opened : was_opened_in s history ≡ true → StartsWithWelcome s (transcript_in s history)
  pub unopened : was_opened_in s history ≡ false → transcript_in s history ≡ []

-- So it is for each session where none was open at the base.
abbrev pub TranscriptsBegin : SessionId → History → Sum → Type 0
TranscriptsBegin s history sum = IsClosed history → LeadsTo history sum → TranscriptBegins s history

-- What begins a transcript starts with the Welcome of its session.
abbrev pub FirstIsWelcome : SessionId → Down → List Down → Type 0
FirstIsWelcome s m more = BeginsTranscriptIn s (m ∷ more) → IsWelcome s m

-- Nothing follows Gone: a beginning of a transcript that holds it is the whole transcript, whatever batches come later.
abbrev pub GoneIsLastIn : SessionId → List Down → History → Sum → Log → Type 0
GoneIsLastIn s xs history sum later =
    IsClosed history → LeadsTo history sum → FollowAll sum later → IsPrefix xs (transcript_in s history) → IsTrue (list_any is_gone xs) → transcript_in s (with_batches history later) ≡ xs

-- ---- who is open after a batch

-- A batch's answers tell s that it is gone exactly where the batch ends it.
abbrev pub GoneTellsIn : SessionId → Sum → Batch → Type 0
GoneTellsIn s sum batch = IsSum sum → FollowsSum sum batch → list_any (is_gone_for s) (answers_by sum batch.entries) ≡ list_any (ends s) batch.entries

-- A session is open after a batch where it was and the batch's answers hold no Gone for it, or where the batch opens
-- it.
abbrev pub OpenAfterIn : SessionId → Sum → Batch → Type 0
OpenAfterIn s sum batch =
    IsSum sum → FollowsSum sum batch → is_open_in s (sum_with sum batch) ≡ ((is_open_in s sum && not (list_any (is_gone_for s) (answers_by sum batch.entries))) || list_any (opens s) batch.entries)

-- Where no session was open at the base, each that is open was opened since.
abbrev pub OpenWasOpened : SessionId → History → Sum → Type 0
OpenWasOpened s history sum = IsClosed history → LeadsTo history sum → is_open_in s sum ≡ true → was_opened_in s history ≡ true

-- Where no session was open at the base, each is opened once.
abbrev pub OpenedOnce : SessionId → History → Sum → Log → Type 0
OpenedOnce s history sum later = IsClosed history → LeadsTo history sum → FollowAll sum later → was_opened_in s history ≡ true → list_any (opens s) (entries later) ≡ false

-- ---- a Hello

-- s was closed and its transcript was empty; of the answers only the last is for s, and that is all that s gets
pub record IsWelcomedIn (s : SessionId) (history : History) (sum : Sum) (batch : Batch) : Type 0 where
  pub closed : is_open_in s sum ≡ false
  pub untold : transcript_in s history ≡ []
  pub others : List Down
  pub last : Down
  pub welcome : IsWelcome s last
  pub answered : answers_by sum batch.entries ≡ others ++ last ∷ []
  pub silent : those_for s others ≡ []
  pub told_now : transcript_in s (with_batch history batch) ≡ last ∷ []
  pub begins : BeginsTranscriptIn s (last ∷ [])

-- A Hello that makes anything is answered by the Welcome of its session, last of all.
abbrev pub HelloIsWelcomedIn : History → SumState → SessionId → ℕ → List Entry → Type 0
HelloIsWelcomedIn history state s now es =
    IsClosed history → LeadsTo history state.sum → turn_by state (input.Up (up.Hello s)) now ≡ makes es → IsWelcomedIn s history state.sum (batch_by state.sum (moment_by state.sum now) es)

-- A Hello isn't passed over.
abbrev pub HelloIsNotQuietBy : SumState → SessionId → ℕ → Type 0
HelloIsNotQuietBy state s now = turn_by state (input.Up (up.Hello s)) now ≢ quiet

-- What an input makes opens s exactly where it is the Hello of s.
abbrev pub OnlyHelloOpensBy : SessionId → SumState → Input → ℕ → List Entry → Type 0
OnlyHelloOpensBy s state i now es = turn_by state i now ≡ makes es → list_any (opens s) es ≡ is_hello_of s i

-- ---- accepted messages

-- What an input makes stands for one message where it is one, and else for none.
abbrev pub AcceptsOneBy : SumState → Input → ℕ → List Entry → Type 0
AcceptsOneBy state i now es = turn_by state i now ≡ makes es → accepted es ≡ messages_in i

-- A batch adds its messages to those that were accepted since a history's base.
abbrev pub AcceptedSinceAdds : History → Batch → Type 0
AcceptedSinceAdds history batch = accepted_since (with_batch history batch) ≡ accepted_since history + accepted batch.entries

-- They are no more than the entries since the base.
abbrev pub AcceptedSinceIsFew : History → Sum → Type 0
AcceptedSinceIsFew history sum = LeadsTo history sum → history.base.number + accepted_since history ≤ sum.number

-- The next message of an open session isn't passed over.
abbrev pub NextIsNotQuietBy : SumState → Up → ℕ → Type 0
NextIsNotQuietBy state m now = IsNextMessageIn m state.sum → turn_by state (input.Up m) now ≢ quiet

-- A message but a Hello that makes anything is the next one of an open session.
abbrev pub MadeIsNextBy : SumState → Up → ℕ → List Entry → Type 0
MadeIsNextBy state m now es = is_hello m ≡ false → turn_by state (input.Up m) now ≡ makes es → IsNextMessageIn m state.sum

-- ---- ends

-- the end of s, for which its client didn't ask, with what is due
abbrev pub end_in : Sum → ℕ → Why → SessionId → Entry
end_in sum moment why s = end_by (part_in sum s.client).live sum.tree moment None why s

-- An open session whose connection is lost is ended, unless that is refused.
abbrev pub LostEndsBy : SumState → SessionId → ℕ → Type 0
LostEndsBy state s now =
    is_open_in s state.sum ≡ true → IsEnding s (end_in state.sum (moment_by state.sum now) why.Lost s) (turn_by state (input.Lost s) now)

-- So is one that is too slow.
abbrev pub SlowEndsBy : SumState → SessionId → ℕ → Type 0
SlowEndsBy state s now =
    is_open_in s state.sum ≡ true → IsEnding s (end_in state.sum (moment_by state.sum now) why.Slow s) (turn_by state (input.Slow s) now)

-- s is an open session of the client, and ends at the restart
abbrev pub EndsAtRestartBy : SumState → ClientId → ℕ → SessionId → Type 0
EndsAtRestartBy state c now s =
    (s.client ≡ c) × (is_open_in s state.sum ≡ true) × IsEnding s (end_in state.sum (moment_by state.sum now) why.Restart s) (turn_by state (input.Restart c) now)

-- A restart ends the open session of a client that has one, unless that is refused.
abbrev pub RestartEndsBy : SumState → ClientId → ℕ → Type 0
RestartEndsBy state c now = has_open_in c state.sum ≡ true → (s : SessionId) × EndsAtRestartBy state c now s

-- ---- of legal logs

-- What a legal log sends to a session is what its history sends to it.
abbrev pub LegalTranscripts : SessionId → Log → Type 0
LegalTranscripts s log = IsLegal log → transcript_in s (whole log) ≡ transcript s (entries log)

-- Where a legal log has the base's sum, the whole log sends to a session what that log sends, and then what the history
-- sends.
abbrev pub ReachedTranscripts : SessionId → Log → History → Sum → Type 0
ReachedTranscripts s before history sum =
    IsLegal before → sum_of before ≡ history.base → LeadsTo history sum → transcript s (entries (before ++ history.log)) ≡ transcript s (entries before) ++ transcript_in s history

-- What begins a transcript in a legal log begins one in a history.
abbrev pub LegalBegins : SessionId → List Down → Type 0
LegalBegins s xs = BeginsTranscript s xs → BeginsTranscriptIn s xs

-- What begins a transcript in a history whose base some legal log has begins one in a legal log.
abbrev pub ReachedBegins : SessionId → List Down → Type 0
ReachedBegins s xs = (begins : BeginsTranscriptIn s xs) → IsReached begins.history.base → BeginsTranscript s xs
