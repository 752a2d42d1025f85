-- Turns that wait for one commit. Each is prepared on the server after the batches before it.
use Rattle.std.specs.Prelude.{ℕ, ◌≡◌, List, [], ◌∷◌, ◌++◌}
use Rattle.pres_wire.specs.declared.down.Down.{Down}
use Rattle.pres_log.specs.declared.entry.Batch.{Batch}
use Rattle.pres_log.specs.Logs.{Log}
use Rattle.pres_server.specs.declared.input.Input.{Input}
use Rattle.pres_server.specs.Turns.{makes}
use Rattle.pres_server.specs.Sums.{Sum, sum_with}
use Rattle.pres_server.specs.SumStates.{SumState}
use Rattle.pres_server.specs.SumAnswers.{answers_by}
use Rattle.pres_server.specs.SumTurns.{turn_by, moment_by, batch_by, after_commit}

-- ---- batches that are committed together

-- the server once the batches are committed, one after another
abbrev pub state_from : SumState → Log → SumState
state_from state [] = state
state_from state (batch ∷ later) = state_from (after_commit state batch.moment batch.entries) later

-- what each of them answers, by the sum before it
abbrev pub answers_each : Sum → Log → List (List Down)
answers_each sum [] = []
answers_each sum (batch ∷ later) = answers_by sum batch.entries ∷ answers_each (sum_with sum batch) later

-- ---- the inputs that make them

-- the input makes this batch
pub record MakesBatch (state : SumState) (input : Input) (now : ℕ) (batch : Batch) : Type 0 where
  pub turn : turn_by state input now ≡ makes batch.entries
  pub is : batch ≡ batch_by state.sum (moment_by state.sum now) batch.entries

-- the inputs make these batches, each on the server after those before it
abbrev pub MakeBatches : SumState → List Input → ℕ → Log → Type 0
MakeBatches state [] now [] = Unit {0}
MakeBatches state (input ∷ inputs) now (batch ∷ later) = MakesBatch state input now batch × MakeBatches (after_commit state batch.moment batch.entries) inputs now later
MakeBatches state _ now _ = ⊥

-- ---- a group

-- the server as it is, and the batches that wait for their commit
pub record PendingGroup : Type 0 where
  pub state : SumState
  pub batches : Log

-- the server once they are committed
abbrev pub server_after : PendingGroup → SumState
server_after group = state_from group.state group.batches

-- a group without batches
abbrev pub begun : SumState → PendingGroup
begun state = record { state = state; batches = [] }

-- the group with a batch more
abbrev pub joined : PendingGroup → Batch → PendingGroup
joined group batch = record { state = group.state; batches = group.batches ++ batch ∷ [] }

-- the batch that the input makes, on the server after those that wait, waits with them
abbrev pub Joins : PendingGroup → Input → ℕ → PendingGroup → Type 0
Joins old input now new = (batch : Batch) × MakesBatch (server_after old) input now batch × (new ≡ joined old batch)
