-- What the turns of several inputs do to an engine, one after another.
use Rattle.std.specs.Prelude.{◌≡◌, ◌⊎◌, ◌<◌, ℕ, List, [], ◌∷◌, ◌++◌, map, length, replicate, Option, Some, None, Result, Ok, Err}
use Rattle.std.specs.List.{flat_map}
use Rattle.pres_wire.specs.declared.down.Down.{Down}
use Rattle.pres_log.specs.Logs.{Log}
use Rattle.pres_server.specs.declared.input.Input.{Input}
use Rattle.pres_server.specs.Histories.{History, with_batches}
use Rattle.pres_server.specs.SumStates.{SumState}
use Rattle.pres_server.specs.Groups.{PendingGroup, MakeBatches, server_after}
use Rattle.pres_keeper.specs.Keepers.{IsOfStore}
use Rattle.pres_keeper.specs.Engines.{Runs, IsHistoryOf}
use Rattle.pres_keeper.specs.EngineTurns.{IsTurnDone, IsTurnRefused, history_turned, history_left}
use Rattle.pres_faults.specs.declared.engine_fault.EngineFault.{EngineFault}
use Rattle.pres_faults.specs.declared.engine_fault.EngineFault.TheVariants as why
use Rattle.pres_faults.specs.declared.saved_fault.SavedFault.{SavedFault}

-- the answers of a turn, or why there are none
abbrev pub TurnResult : Type 0
TurnResult = Result (List Down) EngineFault

-- what a turn alone does, as `turn` says it, and the history after it
abbrev pub IsTurnResult : Option SumState → Input → ℕ → Option SumState → TurnResult → Type 0
IsTurnResult old input now new (Ok outs) = IsTurnDone old input now new outs
IsTurnResult old input now new (Err f) = IsTurnRefused old input now new f

abbrev pub history_after : History → Option SumState → Input → ℕ → TurnResult → History
history_after history old input now (Ok outs) = history_turned history old input now
history_after history old input now (Err f) = history_left history old input now f

-- ---- several turns

-- A part of the turns of several inputs: a turn alone with its result, a group whose batches were not kept, or one whose
-- batches were kept, but memory was refused then.
pub data TurnPart : Type 0 where
  alone : Input → TurnResult → TurnPart
  unkept : List Input → SavedFault → TurnPart
  gone : List Input → TurnPart

-- each of the inputs is refused so
abbrev pub all_refused : EngineFault → List Input → List TurnResult
all_refused f inputs = map (λ _. Err f) inputs

abbrev pub inputs_in : TurnPart → List Input
inputs_in (alone input result) = input ∷ []
inputs_in (unkept inputs fault) = inputs
inputs_in (gone inputs) = inputs

abbrev pub results_in : TurnPart → List TurnResult
results_in (alone input result) = result ∷ []
results_in (unkept inputs fault) = all_refused (why.Keeper fault) inputs
results_in (gone inputs) = all_refused why.Down inputs

-- these answers, each as a result
abbrev pub answered : List (List Down) → List TurnResult
answered [] = []
answered (outs ∷ more) = Ok outs ∷ answered more

-- as many refusals
abbrev pub refusals : ℕ → EngineFault → List TurnResult
refusals n f = replicate n (Err f)

-- the inputs would make these batches, each on the server after those before it
abbrev pub WouldMake : Option SumState → List Input → ℕ → Log → Type 0
WouldMake None inputs now batches = ⊥
WouldMake (Some s) inputs now batches = MakeBatches s inputs now batches

-- what a part does, from a server and its history to a server and its history
abbrev pub IsPart : TurnPart → ℕ → Option SumState → History → Option SumState → History → Type 0
IsPart (alone input result) now old history new end = IsTurnResult old input now new result × (end ≡ history_after history old input now result)
IsPart (unkept inputs fault) now old history new end = (batches : Log) × WouldMake old inputs now batches × IsOfStore fault × (new ≡ old) × (end ≡ history)
IsPart (gone inputs) now old history new end = (batches : Log) × WouldMake old inputs now batches × (new ≡ None) × (end ≡ with_batches history batches)

-- one after another
abbrev pub AreParts : List TurnPart → ℕ → Option SumState → History → Option SumState → History → Type 0
AreParts [] now old history new end = (new ≡ old) × (end ≡ history)
AreParts (part ∷ later) now old history new end = (server : Option SumState) × (between : History) × IsPart part now old history server between × AreParts later now server between new end

-- the turns of the inputs in their order, with the result of each, from a server and its history to a server and its
-- history
pub record AreTurns (inputs : List Input) (results : List TurnResult) (now : ℕ) (old : Option SumState) (history : History) (new : Option SumState) (end : History) : Type 0 where
  pub parts : List TurnPart
  pub in_order : inputs ≡ flat_map inputs_in parts
  pub each : results ≡ flat_map results_in parts
  pub lead : AreParts parts now old history new end

-- What the keeper holds after turns that lead from a history to another one: that one, where it held the first. And what
-- it was that a crash leaves, or what was made since, outlasts the next crash, also where the server went down.
pub record KeepsOn {A : Type 0} (works : A → Type 0) (keeps : A → History → Type 0) (outlasts : A → History → Type 0) (old new : A) (server : Option SumState) (history end : History) : Type 0 where
  pub kept : works new → keeps old history → keeps new end
  pub durable : (works old → keeps old history) → outlasts old history ⊎ (length history.log < length end.log) → Runs (λ _. outlasts new end) server
  pub lasts : (works old → keeps old history) → outlasts old history ⊎ (length history.log < length end.log) → server ≡ None → outlasts new end

-- the turns lead to a history, which leads to the sum of the server that runs, and of which this holds
pub record TurnsLead (holds : History → Type 0) (old : Option SumState) (history : History) (inputs : List Input) (now : ℕ) (new : Option SumState) (results : List TurnResult) : Type 0 where
  pub end : History
  pub turns : AreTurns inputs results now old history new end
  pub leads : IsHistoryOf end new
  pub held : holds end

-- ---- what the calls of the engine do with inputs that wait in a queue

-- the first of the inputs join the group, one after another; the others are left
pub record Fills (old : PendingGroup) (inputs : List Input) (now : ℕ) (new : PendingGroup) (left : List Input) : Type 0 where
  pub taken : List Input
  pub batches : Log
  pub queue : inputs ≡ taken ++ left
  pub made : MakeBatches (server_after old) taken now batches
  pub group : new ≡ record { state = old.state; batches = old.batches ++ batches }

-- the turns of the first of the inputs are done, whose results are added to those before; the others are left
pub record TurnsFirst (holds : History → Type 0) (old : Option SumState) (history : History) (inputs : List Input) (before : List TurnResult) (now : ℕ) (new : Option SumState) (left : List Input) (after : List TurnResult) : Type 0 where
  pub taken : List Input
  pub results : List TurnResult
  pub queue : inputs ≡ taken ++ left
  pub told : after ≡ before ++ results
  pub turns : TurnsLead holds old history taken now new results
