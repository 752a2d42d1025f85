-- The value under a hub's lock.
use Rattle.std.specs.Prelude.{◌≡◌, ℕ}
use Rattle.pres_ids.specs.declared.id.SessionId.{SessionId}
use Rattle.pres_ids.specs.declared.id.Why.{Why}
use Rattle.pres_ids.specs.declared.id.Why.TheVariants as why
use Rattle.pres_log.specs.Logs.{Log}
use Rattle.pres_server.specs.declared.input.Input.{Input}
use Rattle.pres_server.specs.declared.input.Input.TheVariants as input
use Rattle.pres_server.specs.SumStates.{SumState}
use Rattle.pres_server.specs.Histories.{History}
use Rattle.pres_ring.specs.HistoryTranscripts.{accepted_since}
use Rattle.pres_ring.specs.Lines.{Lines}
use Rattle.pres_keeper.specs.Engines.{EngineState, Runs}
use Rattle.pres_dispatch.specs.Dispatches.{DispatcherState, Histories, both_with, StandsBehind, NoneSlow}
use Rattle.pres_accounting.specs.declared.tally.Counts.{Counts}

-- the engine with its lines, what was counted since the start, and the number that the start left
pub record CoreState (A : Type 0) : Type 0 where
  pub run : EngineState A
  pub lines : Lines
  pub counts : Counts
  pub start : ℕ

-- the history begins at the number that the start left, and this many messages were accepted since
abbrev pub AreAccepted : ℕ → ℕ → History → Type 0
AreAccepted start count history = (start ≡ history.base.number) × (accepted_since history ≡ count)

-- the engine with its lines alone
abbrev pub dispatched : {A : Type 0} → CoreState A → DispatcherState A
dispatched held = record { run = held.run; lines = held.lines }

-- The histories explain the server and its lines, and as many messages were accepted since the start as were counted.
pub record CoreHistories {A : Type 0} (works : A → Type 0) (keeps : A → History → Type 0) (held : CoreState A) (s : SumState) (histories : Histories) : Type 0 where
  pub behind : StandsBehind works keeps (dispatched held) s histories
  pub counted : AreAccepted held.start held.counts.accepted histories.since_start

-- while the server runs, these histories do
abbrev pub AreCoreHistories : {A : Type 0} → (A → Type 0) → (A → History → Type 0) → Histories → CoreState A → Type 0
AreCoreHistories works keeps histories held = Runs (λ s. CoreHistories works keeps held s histories) held.run.server

-- Histories that stood before a call go on, with the same batches each, to histories that stand after it.
abbrev pub GoesOn : {A : Type 0} → (A → Type 0) → (A → History → Type 0) → CoreState A → CoreState A → Type 0
GoesOn works keeps old new = (histories : Histories) → AreCoreHistories works keeps histories old → (more : Log) × AreCoreHistories works keeps (both_with histories more) new

-- What holds whenever the lock is free: a running server has a history that leads to its sum, and that its keeper holds as
-- long as the keeper works, and one since its start, when no session was open; what was put on each line is what that one
-- sends to the line's session, and each line whose messages were given up is marked; the count is that of the messages that
-- were accepted in it.
pub record CoreInvariant {A : Type 0} (works : A → Type 0) (keeps : A → History → Type 0) (held : CoreState A) : Type 0 where
  pub stands : Runs (λ s. (histories : Histories) × CoreHistories works keeps held s histories) held.run.server
  pub none_slow : NoneSlow held.lines

-- the input that ends a session for this reason
abbrev pub end_by : Why → SessionId → Input
end_by why.Slow s = input.Slow s
end_by _ s = input.Lost s
