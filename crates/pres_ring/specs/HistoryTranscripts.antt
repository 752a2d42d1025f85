-- The transcript of a session by a history at whose base no session is open: whoever is open later was opened since, and
-- all that it is sent is answered since.
use Rattle.std.specs.Prelude.{◌≡◌, ◌+◌, ◌++◌, ◌∷◌, [], ℕ, Bool, false, IsTrue, List, Some}
use Rattle.std.specs.List.{list_any}
use mathlib.Core.List.{IsPrefix}
use Rattle.pres_ids.specs.declared.id.SessionId.{SessionId}
use Rattle.pres_wire.specs.declared.down.Down.{Down}
use Rattle.pres_wire.specs.declared.up.Up.{Up}
use Rattle.pres_wire.specs.Messages.{session_in, q_in}
use Rattle.pres_log.specs.Logs.{entries}
use Rattle.pres_server.specs.Sums.{Sum, is_open_in, accepted_in}
use Rattle.pres_server.specs.Histories.{History, LeadsTo, answers_in}
use Rattle.pres_history.specs.Sessions.{opens}
use Rattle.pres_ring.specs.Transcripts.{those_for}
use Rattle.pres_ring.specs.AcceptedMessages.{accepted}

-- no session is open at its base
abbrev pub IsClosed : History → Type 0
IsClosed history = (session : SessionId) → is_open_in session history.base ≡ false

-- s was opened since the base
abbrev pub was_opened_in : SessionId → History → Bool
was_opened_in s history = list_any (opens s) (entries history.log)

-- all that was answered to s since the base
abbrev pub transcript_in : SessionId → History → List Down
transcript_in s history = those_for s (answers_in history)

-- a beginning of the transcript of s in some history in which it was opened, and at whose base no session was open
pub record BeginsTranscriptIn (s : SessionId) (xs : List Down) : Type 0 where
  pub history : History
  pub sum : Sum
  pub closed : IsClosed history
  pub leads : LeadsTo history sum
  pub opened : IsTrue (was_opened_in s history)
  pub within : IsPrefix xs (transcript_in s history)

-- the rule of every ring: what was put, with the message appended, is a beginning of some session's transcript
abbrev pub MayPutIn : List Down → Down → Type 0
MayPutIn before m = (s : SessionId) × BeginsTranscriptIn s (before ++ m ∷ [])

-- the message is the next one of an open session
abbrev pub IsNextMessageIn : Up → Sum → Type 0
IsNextMessageIn m sum = (count : ℕ) × (accepted_in (session_in m) sum ≡ Some count) × (q_in m ≡ Some (count + 1))

-- how many messages were accepted since the base
abbrev pub accepted_since : History → ℕ
accepted_since history = accepted (entries history.log)
