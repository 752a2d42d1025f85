-- What the turns of several inputs do to a server and its lines, one after another.
use Rattle.std.specs.Prelude.{◌≡◌, ◌⊎◌, ◌<◌, ℕ, Bool, true, false, List, [], ◌∷◌, map, length, Option, None, Result, Ok, Err}
use Rattle.std.specs.List.{flat_map}
use Rattle.pres_ids.specs.declared.id.SessionId.{SessionId}
use Rattle.pres_wire.specs.declared.down.Down.{Down}
use Rattle.pres_log.specs.Logs.{Log}
use Rattle.pres_server.specs.declared.input.Input.{Input}
use Rattle.pres_server.specs.Histories.{History, with_batches}
use Rattle.pres_server.specs.SumStates.{SumState}
use Rattle.pres_ring.specs.Lines.{Lines, line_at}
use Rattle.pres_ring.specs.Deliveries.{FitsTranscript, LineAfter, LineFits}
use Rattle.pres_faults.specs.declared.engine_fault.EngineFault.{EngineFault}
use Rattle.pres_keeper.specs.Keepers.{IsOfStore}
use Rattle.pres_keeper.specs.Engines.{Runs}
use Rattle.pres_keeper.specs.EngineTurns.{IsTurnDone, IsTurnRefused}
use Rattle.pres_keeper.specs.EngineGroups.{TurnResult, TurnPart, alone, unkept, gone, inputs_in, results_in, history_after, WouldMake}
use Rattle.pres_dispatch.specs.Dispatches.{DispatcherState, Histories, both, Stands}

-- whether a turn answers anything, or why it isn't done
abbrev pub Turned : Type 0
Turned = Result Bool EngineFault

abbrev pub is_told : List Down → Bool
is_told [] = false
is_told (m ∷ ms) = true

-- the answers are put on the lines, and what is left is whether there are any
abbrev pub turned_of : TurnResult → Turned
turned_of (Ok outs) = Ok (is_told outs)
turned_of (Err f) = Err f

-- ---- what is put on the lines

-- the messages are put on the lines, none of which gives one up where 256 were put at most
abbrev pub ArePut : List Down → Lines → Lines → Type 0
ArePut outs before after =
    ((s : SessionId) → LineAfter s outs (line_at s before) (line_at s after))
    × ((s : SessionId) → LineFits s outs (line_at s before) (line_at s after))

-- the answers of each turn that is done are put on the lines, one turn after another
abbrev pub AreDelivered : List TurnResult → Lines → Lines → Type 0
AreDelivered [] before after = after ≡ before
AreDelivered (Ok outs ∷ later) before after = (middle : Lines) × ArePut outs before middle × AreDelivered later middle after
AreDelivered (Err f ∷ later) before after = AreDelivered later before after

-- these answers continue what was put on the lines so far, each after those before it
abbrev pub MayDeliver : List TurnResult → Lines → Type 0
MayDeliver [] lines = Unit {0}
MayDeliver (Ok outs ∷ later) lines = ((s : SessionId) → FitsTranscript s outs (line_at s lines)) × ((after : Lines) → ArePut outs lines after → MayDeliver later after)
MayDeliver (Err f ∷ later) lines = MayDeliver later lines

-- ---- several turns

-- What a part does: a turn that is done is answered on the lines. One that is refused leaves the lines, and so does a
-- group whose batches were not kept, which leaves the server too, and one whose server went down after its commit.
abbrev pub IsPartPut : TurnPart → ℕ → Option SumState → Option SumState → Lines → Lines → Type 0
IsPartPut (alone input (Ok outs)) now old new before after = IsTurnDone old input now new outs × ArePut outs before after
IsPartPut (alone input (Err f)) now old new before after = IsTurnRefused old input now new f × (after ≡ before)
IsPartPut (unkept inputs fault) now old new before after = (batches : Log) × WouldMake old inputs now batches × IsOfStore fault × (new ≡ old) × (after ≡ before)
IsPartPut (gone inputs) now old new before after = (batches : Log) × WouldMake old inputs now batches × (new ≡ None) × (after ≡ before)

-- one after another
abbrev pub ArePartsPut : List TurnPart → ℕ → Option SumState → Option SumState → Lines → Lines → Type 0
ArePartsPut [] now old new before after = (new ≡ old) × (after ≡ before)
ArePartsPut (part ∷ later) now old new before after =
    (middle : Option SumState) × (lines : Lines) × IsPartPut part now old middle before lines × ArePartsPut later now middle new lines after

-- the turns of the inputs in their order, with what each came to, from a server and lines to a server and lines
pub record AreTurned (inputs : List Input) (turned : List Turned) (now : ℕ) (old new : Option SumState) (before after : Lines) : Type 0 where
  pub parts : List TurnPart
  pub in_order : inputs ≡ flat_map inputs_in parts
  pub each : turned ≡ map turned_of (flat_map results_in parts)
  pub put : ArePartsPut parts now old new before after

-- ---- the history after them

abbrev pub history_part : History → (part : TurnPart) (now : ℕ) (old new : Option SumState) (before after : Lines) → IsPartPut part now old new before after → History
history_part history (alone input (Ok outs)) now old new before after put = history_after history old input now (Ok outs)
history_part history (alone input (Err f)) now old new before after put = history_after history old input now (Err f)
history_part history (unkept inputs fault) now old new before after put = history
history_part history (gone inputs) now old new before after put = with_batches history put.0

abbrev pub history_parts : History → (parts : List TurnPart) (now : ℕ) (old new : Option SumState) (before after : Lines) → ArePartsPut parts now old new before after → History
history_parts history [] now old new before after put = history
history_parts history (part ∷ later) now old new before after put =
    history_parts (history_part history part now old put.0 before put.1 put.2) later now put.0 new put.1 after put.3

-- the history after a turn each: with the batches of those that are kept
abbrev pub history_all : {inputs : List Input} {turned : List Turned} {now : ℕ} {old new : Option SumState} {before after : Lines} → History → AreTurned inputs turned now old new before after → History
history_all {inputs} {turned} {now} {old} {new} {before} {after} history all = history_parts history all.parts now old new before after all.put

abbrev pub histories_all : {inputs : List Input} {turned : List Turned} {now : ℕ} {old new : Option SumState} {before after : Lines} → Histories → AreTurned inputs turned now old new before after → Histories
histories_all histories all = both (λ history. history_all history all) histories

-- The histories after the turns stand. What it was that a crash leaves, or what was made since, outlasts the next crash,
-- but for a server that went down.
pub record TurnsStand {A : Type 0} (works : A → Type 0) (keeps : A → History → Type 0) (outlasts : A → History → Type 0) (inputs : List Input) (now : ℕ) (old new : DispatcherState A) (histories : Histories) (turned : List Turned) : Type 0 where
  pub all : AreTurned inputs turned now old.run.server new.run.server old.lines new.lines
  pub stands : Stands works keeps (histories_all histories all) new
  pub durable : outlasts old.run.keeper histories.kept ⊎ (length histories.kept.log < length (history_all histories.kept all).log) → Runs (λ _. outlasts new.run.keeper (history_all histories.kept all)) new.run.server
