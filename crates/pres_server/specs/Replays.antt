-- Servers that are rebuilt from their batches.
use Rattle.std.specs.Prelude.{ℕ, ◌+◌, ◌≡◌, List, ◌∷◌, ◌++◌, map, length}
use Rattle.pres_log.specs.declared.entry.Batch.{Batch}
use Rattle.pres_log.specs.Logs.{Log}
use Rattle.pres_server.specs.declared.replay.ReplayFault.{ReplayFault}
use Rattle.pres_server.specs.declared.replay.ReplayFault.TheVariants.{Memory, NotLegal}
use Rattle.pres_server.specs.ServerStates.{Heard}
use Rattle.pres_server.specs.Sums.{Sum, nothing, sum_from}
use Rattle.pres_server.specs.SumStates.{SumState}
use Rattle.pres_server.specs.SumTurns.{FollowsSum, FollowAll}

-- the client of each open session counts as heard of at the greatest moment
abbrev pub heard_by : Sum → Heard
heard_by sum = map (λ e. (e.0, sum.moment)) sum.sessions

-- the server that is made from a sum
abbrev pub resumed : Sum → SumState
resumed sum = record { sum = sum; heard = heard_by sum }

-- why a batch isn't added to the sum
abbrev pub IsNotAdded : Sum → Batch → ReplayFault → Type 0
IsNotAdded sum batch Memory = Unit {0}
IsNotAdded sum batch (NotLegal k) = ¬ (FollowsSum sum batch) × (k ≡ sum.batches + 1)

-- batch number k is the first that may not follow those before it
pub record IsFirstIllegal (batches : List Batch) (k : ℕ) : Type 0 where
  pub before : Log
  pub batch : Batch
  pub later : List Batch
  pub parts : batches ≡ before ++ batch ∷ later
  pub number : k ≡ length before + 1
  pub legal : FollowAll nothing before
  pub refused : FollowsSum (sum_from nothing before) batch → ⊥

-- why batches are refused
abbrev pub IsNoLog : List Batch → ReplayFault → Type 0
IsNoLog batches Memory = Unit {0}
IsNoLog batches (NotLegal k) = IsFirstIllegal batches k
