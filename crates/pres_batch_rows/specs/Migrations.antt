-- How tables of format 1 are brought to format 2.
use Rattle.std.specs.Prelude.{◌≡◌, ◌⊎◌, false, [], ◌∷◌, IsTrue}
use Rattle.sqlite.specs.Store.{Ghosts}
use Rattle.sqlite.specs.Tree.{Trees}
use Rattle.sqlite.specs.declared.error.Error.{Error}
use Rattle.sqlite.specs.State.{State}
use Rattle.sqlite.specs.Steps.{FailsToCommit}
use Rattle.sqlite.specs.Held.{Held, state}
use Rattle.pres_batch_rows.specs.Schemas.{checkpoint_schema}
use Rattle.pres_batch_rows.specs.RowContents.{rows_in, checkpoints_in, row_of_format}
use Rattle.pres_batch_rows.specs.TableCreation.{Carries, Refuses, begun, checkpoint_text, raise_text}

-- the table of the checkpoint stands beside the two, without a row, and the format is 2; the rows are the same
pub record IsMigrated (old new : State) : Type 0 where
  pub schema : new.now.schema ≡ checkpoint_schema
  pub rows : rows_in new ≡ rows_in old
  pub base : checkpoints_in new ≡ []
  pub format : new.now.trees 0 ≡ row_of_format 2 ∷ []
  pub committed : new.committed ≡ new.now
  pub mode : new.in_transaction ≡ false
  pub was_open : IsTrue old.is_open
  pub is_open : IsTrue new.is_open

-- the same of what a crash leaves
abbrev pub HoldsFormatTwo : State → Trees → Type 0
HoldsFormatTwo s db = IsTrue s.is_open × (db 2 ≡ rows_in s) × (db 3 ≡ []) × (db 0 ≡ row_of_format 2 ∷ [])

module _ {S : Type 0} (g : Ghosts S) where
  -- in one transaction, what the two statements leave is committed
  abbrev pub Migrates : Held S → State → Type 0
  Migrates old new =
      Carries g checkpoint_text (begun g old) (λ one. Carries g raise_text one (λ two.
      (new.now ≡ (state g two).now) × (new.committed ≡ (state g two).now)))

  -- one of the statements is refused after the one before it was carried out, or the commit is
  abbrev pub FailsToMigrate : Held S → Error → Type 0
  FailsToMigrate old e =
      Refuses g checkpoint_text e (begun g old)
      ⊎ (Carries g checkpoint_text (begun g old) (Refuses g raise_text e)
      ⊎ Carries g checkpoint_text (begun g old) (λ one. Carries g raise_text one (λ two.
      (to : Held S) × FailsToCommit (state g two) (state g to) e)))
