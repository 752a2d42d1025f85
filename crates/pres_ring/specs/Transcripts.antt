-- The transcript of a session: all that a log sends to it.
use Rattle.std.specs.Prelude.{◌≡◌, ◌&&◌, Bool, true, false, IsTrue, List, [], ◌∷◌, ◌++◌, filter, if◌then◌else◌, Option, Some, None, ℕ}
use Rattle.std.specs.List.{list_any, before_first}
use mathlib.Core.List.{IsPrefix}
use Rattle.pres_ids.specs.declared.id.SessionId.{SessionId}
use Rattle.pres_ids.specs.Ids.{same_session}
use Rattle.pres_wire.specs.declared.down.Down.{Down}
use Rattle.pres_wire.specs.declared.down.Down.TheVariants as down
use Rattle.pres_wire.specs.Messages.{session_for}
use Rattle.pres_log.specs.declared.entry.Entry.{Entry}
use Rattle.pres_log.specs.declared.entry.Entry.TheVariants as entry
use Rattle.pres_log.specs.Logs.{Log, entries}
use Rattle.pres_history.specs.LegalLog.{IsLegal}
use Rattle.pres_history.specs.Sessions.{opens}
use Rattle.pres_history.specs.Streams.{stream, welcome}

-- the entries up to the one that opens s
abbrev pub up_to_open : SessionId → List Entry → List Entry
up_to_open s es = before_first (opens s) es ++ entry.Open s ∷ []

-- the Welcome of s as of its opening, then its stream; nothing where s was never opened
abbrev pub transcript : SessionId → List Entry → List Down
transcript s es = if list_any (opens s) es then welcome s (up_to_open s es) ∷ stream s es else []

-- a beginning of the transcript of s in some legal log in which it was opened
pub record BeginsTranscript (s : SessionId) (xs : List Down) : Type 0 where
  pub log : Log
  pub legal : IsLegal log
  pub opened : IsTrue (list_any (opens s) (entries log))
  pub within : IsPrefix xs (transcript s (entries log))

-- ---- whom a message is for, and the last one

abbrev pub names : SessionId → Option SessionId → Bool
names s None = false
names s (Some t) = same_session s t

-- those of the messages that are for s
abbrev pub those_for : SessionId → List Down → List Down
those_for s ms = filter (λ m. names s (session_for m)) ms

abbrev pub is_gone : Down → Bool
is_gone (down.Gone s r z why) = true
is_gone _ = false

-- the message tells s that it is gone
abbrev pub is_gone_for : SessionId → Down → Bool
is_gone_for s m = is_gone m && names s (session_for m)

abbrev pub IsWelcome : SessionId → Down → Type 0
IsWelcome s m = (z : ℕ) × (ops : ℕ) × (m ≡ down.Welcome s z ops)

-- the first message is the Welcome of s
abbrev pub StartsWithWelcome : SessionId → List Down → Type 0
StartsWithWelcome s [] = ⊥
StartsWithWelcome s (m ∷ more) = IsWelcome s m

-- it is, where there is one
abbrev pub MayStartWithWelcome : SessionId → List Down → Type 0
MayStartWithWelcome s [] = Unit {0}
MayStartWithWelcome s (m ∷ more) = IsWelcome s m
