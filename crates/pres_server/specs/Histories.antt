-- Histories: a sum, and the batches since. Nobody holds one. That there is one says where a server's sum comes from.
use Rattle.std.specs.Prelude.{ℕ, ◌≡◌, ◌≤◌, ◌<◌, ◌+◌, ◌-◌, ◌*◌, ◌^◌, false, IsTrue, List, [], ◌∷◌, ◌++◌, length, Some, None, IfSome, IsSome}
use Rattle.std.specs.Map.{keys_of}
use Rattle.std.specs.List.Sorted.{IsStrictlySortedBy}
use Rattle.std.specs.FinMap.Entries.{find}
use Rattle.pres_write.specs.Moments as moments
use Rattle.pres_ids.specs.declared.id.SessionId.{SessionId}
use Rattle.pres_ids.specs.Ids.{ClientId, client_cmp}
use Rattle.pres_wire.specs.declared.down.Down.{Down}
use Rattle.pres_retry.specs.declared.table.Row.{Row}
use Rattle.pres_fan.specs.Listeners.{IsListeners}
use Rattle.pres_base.specs.Bases.{are_done}
use Rattle.pres_log.specs.declared.entry.Batch.{Batch}
use Rattle.pres_log.specs.Logs.{Log}
use Rattle.pres_server.specs.InternalParts.{IsAsked}
use Rattle.pres_server.specs.Sums.{Sum, OpenSession, nothing, live_of, part_in, is_open_in, paths_in, sum_with, sum_from}
use Rattle.pres_server.specs.SumAnswers.{answers_by}
use Rattle.pres_server.specs.SumTurns.{FollowAll}

-- ---- what holds of every server's sum

-- what holds of an open session after this many entries
pub record IsOpenSession (number : ℕ) (session : OpenSession) : Type 0 where
  -- each of its messages made an entry
  pub count : session.count ≤ number
  -- an entry sends it a Push and an answer at the most
  pub sent : session.sent ≤ 2 * number
  -- what it leaves was asked for by its messages so far
  pub asked : IsAsked (Some (live_of session))

-- what holds of the answers of a client that has any: its writes were done one after another
abbrev pub AreAnswers : ℕ → List Row → Type 0
AreAnswers number rows = (0 < length rows) × IsTrue (are_done 0 number rows)

-- what holds of the sum between the entries of a batch too
pub record Keeps (sum : Sum) : Type 0 where
  -- clients stand in byte order, each once
  pub sessions : IsStrictlySortedBy client_cmp (keys_of sum.sessions)
  pub gone : IsStrictlySortedBy client_cmp (keys_of sum.gone)
  pub answered : IsStrictlySortedBy client_cmp (keys_of sum.rows)
  pub each : (client : ClientId) → IfSome (find client_cmp client sum.sessions) (IsOpenSession sum.number)
  pub answers : (client : ClientId) → IfSome (find client_cmp client sum.rows) (AreAnswers sum.number)
  -- a client that has answers had a session
  pub known : (client : ClientId) → IsSome (find client_cmp client sum.rows) → IsSome (part_in sum client).last
  -- a client whose last session is gone has none open
  pub apart : (client : ClientId) → IsSome (find client_cmp client sum.gone) → find client_cmp client sum.sessions ≡ None
  pub listeners : IsListeners sum.listeners
  -- only open sessions listen
  pub listening : (session : SessionId) → is_open_in session sum ≡ false → paths_in sum session ≡ []

pub record IsSum (sum : Sum) : Type 0 where
  pub keeps : Keeps sum
  pub few : length sum.sessions ≤ 1024
  -- each batch has an entry
  pub batches : sum.batches ≤ sum.number
  -- a number is left for the end of each open session
  pub room : sum.number + length sum.sessions ≤ 2 ^ 52 - 1
  pub moment : sum.moment ≤ moments.last_moment

-- ---- histories

pub record History : Type 0 where
  -- the sum at which it begins
  pub base : Sum
  -- the batches since
  pub log : Log

-- the history of a whole log
abbrev pub whole : Log → History
whole log = record { base = nothing; log = log }

-- a history with one batch more
abbrev pub with_batch : History → Batch → History
with_batch history batch = record { base = history.base; log = history.log ++ batch ∷ [] }

-- a history with these batches more
abbrev pub with_batches : History → Log → History
with_batches history later = record { base = history.base; log = history.log ++ later }

-- the history that begins at the sum, without batches so far
abbrev pub begun_at : Sum → History
begun_at sum = record { base = sum; log = [] }

-- its batches follow from its base, one after another, and make the sum
pub record LeadsTo (history : History) (sum : Sum) : Type 0 where
  pub base : IsSum history.base
  pub legal : FollowAll history.base history.log
  pub there : sum_from history.base history.log ≡ sum

-- what the batches answer, one after another
abbrev pub answers_from : Sum → Log → List Down
answers_from sum [] = []
answers_from sum (batch ∷ later) = answers_by sum batch.entries ++ answers_from (sum_with sum batch) later

-- all that was answered since the base
abbrev pub answers_in : History → List Down
answers_in history = answers_from history.base history.log
