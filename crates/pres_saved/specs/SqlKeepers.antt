-- What a keeper over a database holds.
use Rattle.std.specs.Prelude.{◌≡◌, ◌+◌, ◌≤◌, ℕ, map, Some, Ok, IsTrue}
use Rattle.std.specs.Str.{IsUtf8}
use Rattle.sqlite.specs.Store.{Ghosts}
use Rattle.sqlite.specs.Tree.{Trees}
use Rattle.sqlite.specs.State.{HasCleanDisk, Survives}
use Rattle.sqlite.specs.Held.{state}
use Rattle.pres_write.specs.Moments.{last_moment}
use Rattle.pres_ids.specs.Numbers.{greatest_number}
use Rattle.pres_base.specs.declared.parts.BaseParts.{BaseParts}
use Rattle.pres_log.specs.declared.entry.Batch.{Batch}
use Rattle.pres_log.specs.Logs.{Log}
use Rattle.serde_json.specs.Written.{compact_text}
use Rattle.pres_batch_json.specs.Entries.{entries_json}
use Rattle.pres_base_json.specs.Forms.{body_text}
use Rattle.pres_batch_rows.specs.TableStates.{TableState, Serves, AddsRows, IsCheckpointed}
use Rattle.pres_batch_rows.specs.TableOpening.{last_in}
use Rattle.pres_batch_rows.specs.RowContents.{RowContent, shown_row, shown_rows, shown_base}
use Rattle.pres_server.specs.Sums.{Sum}
use Rattle.pres_server.specs.Histories.{History}
use Rattle.pres_keeper.specs.Keepers.{Readable, BeginsWith, HasOneNull}
use Rattle.pres_saved.specs.SavedHistories.{sum_by, batch_in, saved_history, readable_rows}

-- the disk gave back what was written, and the store is open
pub record Works {S : Type 0} (g : Ghosts S) (t : TableState S) : Type 0 where
  pub clean : HasCleanDisk (state g t.connection)
  pub is_open : IsTrue (state g t.connection).is_open

-- the store was shut already, and the disk gave back what was written
pub record WasShut {S : Type 0} (g : Ghosts S) (old new : TableState S) : Type 0 where
  pub clean : HasCleanDisk (state g new.connection)
  pub was_shut : IsTrue (state g old.connection).is_open → ⊥

-- no transaction is open, and the next row comes after the last
pub record IsReady {S : Type 0} (g : Ghosts S) (t : TableState S) : Type 0 where
  pub serves : Serves g t
  pub last : Works g t → t.last ≡ last_in (shown_base (state g t.connection)) (shown_rows (state g t.connection))

-- its checkpoint is the base of the history, and its rows are the batches since
abbrev pub KeepsHistory : {S : Type 0} → Ghosts S → TableState S → History → Type 0
KeepsHistory g t history = saved_history (shown_base (state g t.connection)) (shown_rows (state g t.connection)) ≡ Ok history

-- what can be read of its checkpoint and its rows
abbrev pub readable_in : {S : Type 0} → Ghosts S → TableState S → Readable
readable_in g t = readable_rows (shown_base (state g t.connection)) (shown_rows (state g t.connection))

-- ---- what is written

-- a batch is saved as its moment and the JSON text of its entries
abbrev pub saved_batch : Batch → RowContent
saved_batch batch = record { moment = batch.moment; body = compact_text (entries_json batch.entries) }

-- what is saved of the batch is read as the batch, after as many entries as come before it
pub record IsReadBack (batch : Batch) : Type 0 where
  pub moment : batch.moment ≤ last_moment
  pub text : IsUtf8 (saved_batch batch).body
  pub read : (before : ℕ) → batch.first ≡ before + 1 → HasOneNull batch.entries → batch_in before (saved_batch batch) ≡ Some batch

-- each batch is saved in a row, numbered on from the last, and these rows are committed together
abbrev pub SavesBatches : {S : Type 0} → Ghosts S → TableState S → Log → TableState S → Type 0
SavesBatches g old batches new = AddsRows (state g old.connection) (state g new.connection) (old.last + 1) (map saved_batch batches)

-- a base is saved as its moment and its body
abbrev pub saved_checkpoint : BaseParts → RowContent
saved_checkpoint base = record { moment = base.moment; body = body_text base }

-- what is saved of a base with this sum is read as one that has it, under as many batches
pub record IsBaseReadBack (sum : Sum) (row : RowContent) : Type 0 where
  pub number : sum.batches ≤ greatest_number
  pub moment : row.moment ≤ last_moment
  pub text : IsUtf8 row.body
  pub read : sum_by (Some (sum.batches, row)) ≡ Some sum

-- the base is saved in the checkpoint, under the number of the last row, and no other row is left, all in one commit
abbrev pub SavesBase : {S : Type 0} → Ghosts S → TableState S → BaseParts → TableState S → Type 0
SavesBase g old base new = IsCheckpointed (state g old.connection) (state g new.connection) old.last (saved_checkpoint base)

-- ---- what a crash leaves

-- what a crash in the middle of a call may leave: what a crash before it could, or what saves the history
abbrev pub LeavesHistory : {S : Type 0} → Ghosts S → TableState S → History → TableState S → Type 0
LeavesHistory g old history new =
    Survives (state g old.connection) (state g new.connection)
    (λ db. Works g old → saved_history (map shown_row (db 3)) (map shown_row (db 2)) ≡ Ok history)

-- what can be read of a database that a crash at this moment may leave, where the disk gave back what was written
pub record MayFind {S : Type 0} (g : Ghosts S) (t : TableState S) (held : Readable) : Type 0 where
  pub clean : HasCleanDisk (state g t.connection)
  pub left : Trees
  pub may : (state g t.connection).may_leave left
  pub read : held ≡ readable_rows (map shown_row (left 3)) (map shown_row (left 2))

-- what can be read of whatever a crash leaves goes on from the history, where the disk gave back what was written
abbrev pub OutlastsHistory : {S : Type 0} → Ghosts S → TableState S → History → Type 0
OutlastsHistory g t history =
    HasCleanDisk (state g t.connection) → (left : Trees) → (state g t.connection).may_leave left
    → BeginsWith history (readable_rows (map shown_row (left 3)) (map shown_row (left 2)))
