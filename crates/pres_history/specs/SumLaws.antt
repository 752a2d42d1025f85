-- What the sum of a legal log says, and that it decides what comes next.
use Rattle.std.specs.Prelude.{◌≡◌, ◌↔◌, ℕ, List, [], ◌∷◌, ◌++◌, map, length, Some, None, MatchOption, if◌then◌else◌}
use Rattle.pres_ids.specs.declared.id.SessionId.{SessionId}
use Rattle.pres_ids.specs.Ids.{ClientId}
use Rattle.pres_log.specs.declared.entry.Batch.{Batch}
use Rattle.pres_log.specs.declared.entry.Entry.{Entry}
use Rattle.pres_log.specs.Logs.{Log, entries, last_moment, tree}
use Rattle.pres_server.specs.declared.input.Input.{Input}
use Rattle.pres_retry.specs.Tables.{rows_of}
use Rattle.pres_history.specs.Sessions.{is_open, count, has_open, open_sessions, open_sessions_of}
use Rattle.pres_history.specs.Outcomes.{rows_for}
use Rattle.pres_server.specs.Replays.{heard_by}
use Rattle.pres_history.specs.Replays.{heard_anew}
use Rattle.pres_history.specs.Listening.{listened}
use Rattle.pres_history.specs.Streams.{answers}
use Rattle.pres_history.specs.LegalLog.{MayFollow, IsLegal}
use Rattle.pres_server.specs.ServerStates.{Heard}
use Rattle.pres_server.specs.Turns.{Decision}
use Rattle.pres_history.specs.Turns.{turn, log_after}
use Rattle.pres_history.specs.InternalParts.{part_of, sent_of}
use Rattle.pres_server.specs.InternalParts.{session_with}
use Rattle.pres_server.specs.Sums.{Sum, nothing, part_in, paths_in, is_open_in, accepted_in, has_open_in, open_stamp_in, sent_by, sum_from, sum_of}
use Rattle.pres_server.specs.SumAnswers.{answers_by}
use Rattle.pres_server.specs.SumTurns.{FollowsSum, FollowAll, turn_by, sum_after_turn}

-- the sum says what the entries say
pub record Says (es : List Entry) (sum : Sum) : Type 0 where
  pub number : sum.number ≡ length es
  pub parts : (client : ClientId) → part_in sum client ≡ part_of client es
  pub sent : (client : ClientId) → sent_by client sum.sessions ≡ sent_of client es
  pub listens : (session : SessionId) → paths_in sum session ≡ (if is_open session es then listened session es else [])
  -- the open sessions, in byte order of their clients
  pub sessions : map (λ e. session_with e.0 e.1.stamp) sum.sessions ≡ open_sessions es
  pub tree : sum.tree ≡ tree es

-- what the sum of the log says is what the log says, and it decides as the log does
pub record SumSays (log : Log) : Type 0 where
  pub says : Says (entries log) (sum_of log)
  pub batches : (sum_of log).batches ≡ length log
  pub moment : (sum_of log).moment ≡ last_moment log
  pub follows : (batch : Batch) → FollowsSum (sum_of log) batch ↔ MayFollow log batch
  pub turns : (heard : Heard) (input : Input) (now : ℕ) → turn_by (record { sum = sum_of log; heard = heard }) input now ≡ turn (record { log = log; heard = heard }) input now
  pub committed : (moment : ℕ) (decision : Decision) → sum_after_turn (sum_of log) moment decision ≡ sum_of (log_after log moment decision)
  pub answered : (batch : Batch) → MayFollow log batch → answers_by (sum_of log) batch.entries ≡ answers (entries log) batch.entries

-- The sum of a legal log says what the log says.
abbrev pub LegalSumSays : Log → Type 0
LegalSumSays log = IsLegal log → SumSays log

-- A log is legal exactly where its batches follow, one after another, from the empty log's sum.
abbrev pub LegalByTheSum : Log → Type 0
LegalByTheSum log = IsLegal log ↔ FollowAll nothing log

-- the same comes next after both logs
pub record SameNext (a b : Log) : Type 0 where
  pub follows : (batch : Batch) → MayFollow a batch ↔ MayFollow b batch
  pub turns : (heard : Heard) (input : Input) (now : ℕ) → turn (record { log = a; heard = heard }) input now ≡ turn (record { log = b; heard = heard }) input now
  pub answered : (batch : Batch) → MayFollow a batch → answers (entries a) batch.entries ≡ answers (entries b) batch.entries
  pub sums : (batch : Batch) → sum_of (a ++ batch ∷ []) ≡ sum_of (b ++ batch ∷ [])

-- After two legal logs with equal sums the same batches may follow, the same turns are made and the same is answered, and
-- the sums stay equal.
abbrev pub SumsDecide : Log → Log → Type 0
SumsDecide a b = IsLegal a → IsLegal b → sum_of a ≡ sum_of b → SameNext a b

-- Where a legal log has the sum, and the later batches follow from that sum, the whole is legal, and its sum is the one that they lead to.
abbrev pub WholeIsLegal : Log → Sum → Log → Type 0
WholeIsLegal log base later =
    IsLegal log → sum_of log ≡ base → FollowAll base later →
    IsLegal (log ++ later) × (sum_of (log ++ later) ≡ sum_from base later)

-- some legal log has the sum
pub record IsReached (sum : Sum) : Type 0 where
  pub log : Log
  pub legal : IsLegal log
  pub summed : sum_of log ≡ sum

-- Batches that follow from a sum that some legal log has lead to a sum that some legal log has.
abbrev pub ReachedStays : Sum → Log → Type 0
ReachedStays base later = IsReached base → FollowAll base later → IsReached (sum_from base later)

-- ---- what a server's readers and its replay say

-- what the readers of a server say by the sum is what the entries say
pub record ReadersSay (es : List Entry) (sum : Sum) : Type 0 where
  pub opened : (session : SessionId) → is_open_in session sum ≡ is_open session es
  pub accepted : (session : SessionId) → accepted_in session sum ≡ (if is_open session es then Some (count session es) else None)
  pub has_open : (client : ClientId) → has_open_in client sum ≡ has_open client es
  -- the stamp of the client's open session, where it has one
  pub stamp : (client : ClientId) → MatchOption (open_stamp_in client sum) (open_sessions_of client es ≡ []) (λ stamp. open_sessions_of client es ≡ session_with client stamp ∷ [])
  pub rows : (client : ClientId) → rows_of client sum.rows ≡ rows_for client es

-- What the readers of a server say by the sum of a legal log is what the log says.
abbrev pub LegalReadersSay : Log → Type 0
LegalReadersSay log = IsLegal log → ReadersSay (entries log) (sum_of log)

-- The clients of a server that is made from a legal log's sum count as heard of as those of one that is made from the log.
abbrev pub SameHeard : Log → Type 0
SameHeard log = IsLegal log → heard_by (sum_of log) ≡ heard_anew log
