-- Rows that are taken one at a time: what each does to the batches or the sum so far, and why one is refused.
use Rattle.std.specs.Prelude.{◌≡◌, ◌⊎◌, ◌+◌, ◌≤◌, ℕ, [], ◌∷◌, ◌++◌, length, Some, None}
use Rattle.pres_ids.specs.Numbers.{greatest_number}
use Rattle.pres_log.specs.declared.entry.Batch.{Batch}
use Rattle.pres_log.specs.Logs.{Log}
use Rattle.pres_faults.specs.declared.saved_fault.SavedFault.{SavedFault}
use Rattle.pres_faults.specs.declared.saved_fault.SavedFault.TheVariants.{Memory, Database, BadRow}
use Rattle.pres_batch_rows.specs.RowContents.{RowContent}
use Rattle.pres_server.specs.Sums.{Sum, sum_with}
use Rattle.pres_server.specs.SumTurns.{FollowsSum}
use Rattle.pres_saved.specs.SavedHistories.{batch_in}

-- memory is refused, or after this many no number is left for one more
abbrev pub HasNoRoom : ℕ → SavedFault → Type 0
HasNoRoom before e = (e ≡ Memory) ⊎ ((e ≡ Database) × (greatest_number ≤ before))

-- ---- by the batches

-- batches after others: how many came before them, how many entries there are with theirs, and the batches
pub record Since : Type 0 where
  pub behind : ℕ
  pub number : ℕ
  pub log : Log

-- the row's batch is appended
pub record Extends (old : Since) (row : RowContent) (new : Since) : Type 0 where
  pub batch : Batch
  pub read : batch_in old.number row ≡ Some batch
  pub extended : new ≡ record { behind = old.behind; number = old.number + length batch.entries; log = old.log ++ batch ∷ [] }

-- the row saves no batch
pub record SavesNone (since : Since) (row : RowContent) (e : SavedFault) : Type 0 where
  pub unread : batch_in since.number row ≡ None
  pub why : e ≡ BadRow (since.behind + length since.log + 1)

abbrev pub IsNotTaken : Since → RowContent → SavedFault → Type 0
IsNotTaken since row e = SavesNone since row e ⊎ HasNoRoom (since.behind + length since.log) e

-- ---- by the sum

-- the row's batch may follow, and is added
pub record Follows (old : Sum) (row : RowContent) (new : Sum) : Type 0 where
  pub batch : Batch
  pub read : batch_in old.number row ≡ Some batch
  pub may : FollowsSum old batch
  pub added : new ≡ sum_with old batch

-- the row saves no batch that may follow
pub record MayNotFollow (sum : Sum) (row : RowContent) (e : SavedFault) : Type 0 where
  pub refused : (b : Batch) → batch_in sum.number row ≡ Some b → FollowsSum sum b → ⊥
  pub why : e ≡ BadRow (sum.batches + 1)

abbrev pub IsNoFollower : Sum → RowContent → SavedFault → Type 0
IsNoFollower sum row e = MayNotFollow sum row e ⊎ HasNoRoom sum.batches e
