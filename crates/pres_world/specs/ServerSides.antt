-- The server's part of a world: what its events do to it, to the base and the batches that are kept and to the messages that go out.
use Rattle.std.specs.Prelude.{◌≡◌, ⊤, ℕ, false, List, [], ◌∷◌, ◌++◌, take, drop, Option, Some, None, MatchOption}
use Rattle.pres_ids.specs.declared.id.SessionId.{SessionId}
use Rattle.pres_ids.specs.Ids.{ClientId}
use Rattle.pres_wire.specs.declared.down.Down.{Down}
use Rattle.pres_wire.specs.declared.down.Down.TheVariants.{Fault}
use Rattle.pres_wire.specs.declared.down.Code.{Code}
use Rattle.pres_wire.specs.declared.down.Code.TheVariants as code
use Rattle.pres_base.specs.declared.parts.BaseParts.{BaseParts}
use Rattle.pres_log.specs.declared.entry.Entry.{Entry}
use Rattle.pres_log.specs.Faults.{code_of}
use Rattle.pres_log.specs.Logs.{Log, entries}
use Rattle.pres_server.specs.declared.input.Input.{Input}
use Rattle.pres_server.specs.declared.input.Input.TheVariants as input
use Rattle.pres_history.specs.ServerStates.{ServerState}
use Rattle.pres_server.specs.ServerStates.{heard_from, first_client}
use Rattle.pres_history.specs.Sessions.{has_open, open_sessions_of}
use Rattle.pres_history.specs.Streams.{answers}
use Rattle.pres_server.specs.Turns.{Decision, refused, quiet, makes}
use Rattle.pres_history.specs.Turns.{turn, moment_of, state_after, state_heard, batch_of}
use Rattle.pres_history.specs.Replays.{made_from}
use Rattle.pres_history.specs.LegalLog.{IsLegal}
use Rattle.pres_server.specs.Replays.{resumed}
use Rattle.pres_server.specs.BaseSums.{sum_for}
use Rattle.pres_server.specs.Sums.{Sum, nothing, sum_from, sum_of}
use Rattle.pres_server.specs.SumStates.{SumState, PendingTurn}
use Rattle.pres_world.specs.declared.event.Ending.{Ending}
use Rattle.pres_world.specs.declared.event.Ending.TheVariants as ending

-- the server while it runs, the base that a checkpoint kept last, all batches that were committed, and all messages that
-- went out
pub record ServerSideState : Type 0 where
  pub server : Option ServerState
  -- the base's sum, or that of the log without batches
  pub base : Sum
  pub history : Log
  pub downs : List Down

-- the sum is that of the history's first batches
abbrev pub IsBaseIn : Log → Sum → Type 0
IsBaseIn history base = base ≡ sum_of (take base.batches history)

-- the history is a legal log, and that of the server; the kept base is that of its first batches
pub record ServerSideInvariant (w : ServerSideState) : Type 0 where
  pub legal : IsLegal w.history
  pub its_log : MatchOption w.server ⊤ (λ s. s.log ≡ w.history)
  pub based : IsBaseIn w.history w.base

-- ---- a server holds its log's sum

-- a server as that of a log
abbrev pub of_log : Log → SumState → ServerState
of_log log server = record { log = log; heard = server.heard }

-- the server of a log, as it is by its log's sum
abbrev pub by_sum : ServerState → SumState
by_sum s = record { sum = sum_of s.log; heard = s.heard }

-- the server is that of a legal log
abbrev pub HasLog : SumState → ServerState → Type 0
HasLog server s = IsLegal s.log × (server ≡ by_sum s)

-- the sum of a kept base, or that of the log without batches
abbrev pub base_sum : Option BaseParts → Sum
base_sum None = nothing
base_sum (Some base) = sum_for base

-- the history is a legal log, the base is that of its first batches, and the server holds its sum
pub record HoldsSum (history : Log) (base : Sum) (server : Option SumState) : Type 0 where
  pub legal : IsLegal history
  pub based : IsBaseIn history base
  pub summed : MatchOption server ⊤ (λ s. s.sum ≡ sum_of history)

-- ---- what an event does

-- a refusal, where there is a session that it goes to
abbrev pub fault_for : Option SessionId → Code → List Down
fault_for None c = []
fault_for (Some s) c = Fault (Some s) c ∷ []

-- the server after a turn
abbrev pub state_by : Decision → ServerState → ℕ → Input → ServerState
state_by (makes es) s moment i = state_after s moment es
state_by quiet s moment i = state_heard s moment i
state_by (refused f) s moment i = s

-- what a turn answers
abbrev pub answers_by : Decision → ServerState → Input → List Down
answers_by (makes es) s i = answers (entries s.log) es
answers_by quiet s i = []
answers_by (refused f) s i = fault_for (heard_from i) (code_of f)

-- its answers go out
abbrev pub goes_on : Sum → List Down → Decision → ServerState → ℕ → Input → ServerSideState
goes_on base downs d s moment i = record { server = Some (state_by d s moment i); base = base; history = (state_by d s moment i).log; downs = downs ++ answers_by d s i }

-- its answers are lost
abbrev pub stops : Sum → List Down → Decision → ServerState → ℕ → Input → ServerSideState
stops base downs d s moment i = record { server = None; base = base; history = (state_by d s moment i).log; downs = downs }

-- its batch is not committed
abbrev pub keeps_nothing : Sum → List Down → Decision → ServerState → ℕ → Input → ServerSideState
keeps_nothing base downs (makes es) s moment i = record { server = Some s; base = base; history = s.log; downs = downs ++ fault_for (heard_from i) code.Busy }
keeps_nothing base downs quiet s moment i = goes_on base downs quiet s moment i
keeps_nothing base downs (refused f) s moment i = goes_on base downs (refused f) s moment i

abbrev pub turned : Ending → Sum → List Down → Decision → ServerState → ℕ → Input → ServerSideState
turned ending.Answered base downs d s moment i = goes_on base downs d s moment i
turned ending.Stopped base downs d s moment i = stops base downs d s moment i
turned ending.Refused base downs d s moment i = keeps_nothing base downs d s moment i

-- one input, while the server runs
abbrev pub served_by : Option ServerState → ServerSideState → Input → ℕ → Ending → ServerSideState
served_by None w i now e = w
served_by (Some s) w i now e = turned e w.base w.downs (turn s i now) s (moment_of s.log now) i

abbrev pub served : ServerSideState → Input → ℕ → Ending → ServerSideState
served w i now e = served_by w.server w i now e

-- the log with the batch of a turn that waits
abbrev pub log_with : Log → PendingTurn → Log
log_with log busy = log ++ batch_of log busy.moment busy.made ∷ []

-- the sessions that a client has open, while the server runs
abbrev pub open_on : Option ServerState → ClientId → List SessionId
open_on None client = []
open_on (Some s) client = open_sessions_of client (entries s.log)

-- the server hears that the connection of the first of these sessions is lost
abbrev pub lost : List SessionId → ServerSideState → ℕ → Ending → ServerSideState
lost [] w now e = w
lost (s ∷ more) w now e = served w (input.Lost s) now e

-- a session of the client ends, and its batch is appended to those before
abbrev pub IsEndOf : ServerState → ClientId → ℕ → ServerState → Log → Log → Type 0
IsEndOf s c now t old new = (es : List Entry) × (turn s (input.Restart c) now ≡ makes es) × (t ≡ state_after s (moment_of s.log now) es) × (new ≡ old ++ batch_of s.log (moment_of s.log now) es ∷ [])

-- The sessions of these clients end, one after the other: each time that of the first client, in byte order. Then no
-- session is open.
abbrev pub EndsAll : ℕ → List ClientId → ServerState → ServerState → Type 0
EndsAll now [] s t = (t ≡ s) × ((c : ClientId) → has_open c (entries t.log) ≡ false)
EndsAll now (c ∷ cs) s t = (es : List Entry) × (first_client s.heard ≡ Some c) × (turn s (input.Restart c) now ≡ makes es) × EndsAll now cs (state_after s (moment_of s.log now) es) t

-- ---- checkpoints

-- the server's base, while it runs, or the one that was kept before
abbrev pub base_after : Option ServerState → Sum → Sum
base_after None base = base
base_after (Some s) base = sum_of s.log

-- the base of the server is kept, while it runs; nothing else is changed
abbrev pub checkpointed : ServerSideState → ServerSideState
checkpointed w = record w { base = base_after w.server w.base }

-- the server that is made from the kept base and from the batches after it
abbrev pub resumed_in : ServerSideState → SumState
resumed_in w = resumed (sum_from w.base (drop w.base.batches w.history))

-- Where the kept base is that of a legal history's first batches, the server that is made from it and from the batches
-- after it is that of the history.
abbrev pub ResumesItsHistory : ServerSideState → Type 0
ResumesItsHistory w = ServerSideInvariant w → HasLog (resumed_in w) (made_from w.history)

-- A server is made from the kept base and from the batches after it, which is that of the history. Each open session ends,
-- and the answers of these ends are lost.
abbrev pub IsRestarted : ServerSideState → ℕ → ServerSideState → Type 0
IsRestarted w now v = HasLog (resumed_in w) (made_from w.history) × (cs : List ClientId) × (t : ServerState) × EndsAll now cs (made_from w.history) t × (v ≡ record w { server = Some t; history = t.log })
