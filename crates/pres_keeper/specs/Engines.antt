-- What an engine is.
use Rattle.std.specs.Prelude.{◌≡◌, ℕ, ⊤, Option, MatchOption}
use Rattle.pres_server.specs.SumStates.{SumState}
use Rattle.pres_server.specs.Histories.{IsSum, History, LeadsTo}
use Rattle.pres_keeper.specs.Keepers.{SomeHistory, KeepsOneNull}

-- what keeps its history, the server while there is one, how many entries were answered, and how many of them come before
-- the sum at which the keeper's history begins
pub record EngineState (A : Type 0) : Type 0 where
  pub keeper : A
  pub server : Option SumState
  pub number : ℕ
  pub base_number : ℕ

-- of a server that runs
abbrev pub Runs : (SumState → Type 0) → Option SumState → Type 0
Runs holds server = MatchOption server ⊤ holds

-- the history leads to the sum of the server that runs
abbrev pub IsHistoryOf : History → Option SumState → Type 0
IsHistoryOf history server = Runs (λ s. LeadsTo history s.sum) server

-- the keeper is ready, and some history leads to the server's sum, which the keeper holds as long as it works; the number
-- is the sum's
pub record EngineInvariant {A : Type 0} (ready : A → Type 0) (works : A → Type 0) (keeps : A → History → Type 0) (run : EngineState A) : Type 0 where
  pub is_ready : ready run.keeper
  pub kept : Runs (λ s. SomeHistory (λ history. works run.keeper → keeps run.keeper history) s.sum) run.server
  pub summed : Runs (λ s. IsSum s.sum) run.server
  pub nulls : Runs (λ s. KeepsOneNull s.sum) run.server
  pub counted : Runs (λ s. run.number ≡ s.sum.number) run.server
