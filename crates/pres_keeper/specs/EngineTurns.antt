-- What a turn does to an engine.
use Rattle.std.specs.Prelude.{◌≡◌, ◌⊎◌, ◌<◌, ◌≤◌, ◌-◌, ℕ, true, List, [], Option, Some, None}
use Rattle.pres_wire.specs.declared.down.Down.{Down}
use Rattle.pres_log.specs.declared.fault.Fault.TheVariants.{Busy as OutOfMemory}
use Rattle.pres_server.specs.declared.input.Input.{Input}
use Rattle.pres_server.specs.Turns.{Decision, refused, quiet, makes, IsRefusal, is_made}
use Rattle.pres_server.specs.Sums.{Sum}
use Rattle.pres_server.specs.Histories.{History, with_batch, begun_at}
use Rattle.pres_server.specs.SumStates.{SumState, PendingTurn}
use Rattle.pres_server.specs.SumAnswers.{answers_by}
use Rattle.pres_server.specs.SumTurns.{turn_by, moment_by, batch_by, after_commit, after_hearing}
use Rattle.pres_keeper.specs.Keepers.{IsOfStore, SomeHistory}
use Rattle.pres_keeper.specs.Settlements.{history_with}
use Rattle.pres_keeper.specs.Engines.{EngineState}
use Rattle.pres_faults.specs.declared.engine_fault.EngineFault.{EngineFault}
use Rattle.pres_faults.specs.declared.engine_fault.EngineFault.TheVariants as why

-- the decision is carried out: the server after it, and its answers
abbrev pub IsDone : Decision → SumState → ℕ → Input → Option SumState → List Down → Type 0
IsDone (makes es) s moment input new outs = (new ≡ Some (after_commit s moment es)) × (outs ≡ answers_by s.sum es)
IsDone quiet s moment input new outs = (new ≡ Some (after_hearing s moment input)) × (outs ≡ [])
IsDone (refused f) s moment input new outs = ⊥

-- the turn that the input asks for is done
abbrev pub IsTurnDone : Option SumState → Input → ℕ → Option SumState → List Down → Type 0
IsTurnDone None input now new outs = ⊥
IsTurnDone (Some s) input now new outs = IsDone (turn_by s input now) s (moment_by s.sum now) input new outs

-- the turn that the input asks for makes a batch
abbrev pub MakesBatch : Option SumState → Input → ℕ → Type 0
MakesBatch None input now = ⊥
MakesBatch (Some s) input now = is_made (turn_by s input now) ≡ true

-- the server's own refusal
abbrev pub IsDecisionRefused : Option SumState → Input → ℕ → (Decision → Type 0) → Type 0
IsDecisionRefused None input now why = ⊥
IsDecisionRefused (Some s) input now why = why (turn_by s input now)

-- A turn isn't done: a refused one leaves the server as it was, and where memory is refused after the commit there is
-- none. A batch isn't kept where memory or the database refuses.
abbrev pub IsTurnRefused : Option SumState → Input → ℕ → Option SumState → EngineFault → Type 0
IsTurnRefused old input now new (why.Refused f) = (new ≡ old) × IsDecisionRefused old input now (λ d. d ≡ refused f)
IsTurnRefused old input now new why.Memory = (new ≡ old) × IsDecisionRefused old input now (λ d. IsRefusal d OutOfMemory)
IsTurnRefused old input now new (why.Keeper f) = (new ≡ old) × IsDecisionRefused old input now (λ d. is_made d ≡ true) × IsOfStore f
IsTurnRefused old input now new why.Down = (new ≡ None) × ((old ≡ None) ⊎ IsDecisionRefused old input now (λ d. is_made d ≡ true))

-- ---- the history after a turn

-- the history with what is made
abbrev pub history_made : History → Sum → ℕ → Decision → History
history_made history sum moment (makes es) = with_batch history (batch_by sum moment es)
history_made history sum moment _ = history

-- the history after the turn that the input asks for
abbrev pub history_turned : History → Option SumState → Input → ℕ → History
history_turned history None input now = history
history_turned history (Some s) input now = history_made history s.sum (moment_by s.sum now) (turn_by s input now)

-- The history after a turn that isn't done is that of before. But a server that goes down has its batch kept.
abbrev pub history_left : History → Option SumState → Input → ℕ → EngineFault → History
history_left history old input now why.Down = history_turned history old input now
history_left history old input now _ = history

-- what the turn makes is kept after a history that leads to the server's sum
abbrev pub HoldsMade : (History → Type 0) → SumState → ℕ → Decision → Type 0
HoldsMade keeps s now (makes es) = SomeHistory (λ history. keeps (with_batch history (batch_by s.sum (moment_by s.sum now) es))) s.sum
HoldsMade keeps s now _ = ⊥

-- A server that goes down has its batch kept.
abbrev pub KeepsGone : (History → Type 0) → Option SumState → Input → ℕ → EngineFault → Type 0
KeepsGone keeps (Some s) input now why.Down = HoldsMade keeps s now (turn_by s input now)
KeepsGone keeps _ input now _ = Unit {0}

-- a turn that isn't done, of the server that waited
abbrev pub IsUndone : SumState → Option SumState → EngineFault → Type 0
IsUndone s new (why.Keeper f) = (new ≡ Some s) × IsOfStore f
IsUndone s new why.Down = new ≡ None
IsUndone s new e = ⊥

-- the history after such a turn, whose batch is kept where the server goes down
abbrev pub history_undone : History → PendingTurn → EngineFault → History
history_undone history busy why.Down = history_with history busy
history_undone history busy _ = history

-- ---- a checkpoint

-- It isn't due, and nothing is changed, where fewer entries than the rise were answered since the last one. Else it is
-- kept, and tells the number of entries that come before it.
abbrev pub IsCheckpointed : {A : Type 0} → EngineState A → ℕ → EngineState A → Option ℕ → Type 0
IsCheckpointed old rise new None = (old.number - old.base_number < rise) × (new ≡ old)
IsCheckpointed old rise new (Some number) = (rise ≤ old.number - old.base_number) × (number ≡ old.number) × (new.base_number ≡ old.number)

-- it isn't kept, where memory or the database refuses, or there is no server
abbrev pub IsNotCheckpointed : Option SumState → EngineFault → Type 0
IsNotCheckpointed None e = e ≡ why.Down
IsNotCheckpointed (Some s) (why.Keeper f) = IsOfStore f
IsNotCheckpointed (Some s) e = ⊥

-- what is kept after it: where it is kept, the history begins at the server's sum
abbrev pub history_checkpointed : History → Option SumState → Option ℕ → History
history_checkpointed history (Some s) (Some number) = begun_at s.sum
history_checkpointed history server number = history
