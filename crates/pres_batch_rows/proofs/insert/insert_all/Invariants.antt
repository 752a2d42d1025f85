use Rattle.std.proofs.Common.{◌≡◌, ◌+◌, map, take}
use Rattle.std.specs.List.{AllByRecursion}
use Rattle.sqlite.specs.Held.{state}
use Rattle.sqlite.specs.State.{HasCleanDisk, Survives}
use Rattle.pres_batch_rows.specs.TableStates.{Awaits}
use Rattle.pres_batch_rows.specs.RowContents.{HasMoment, saved_of}
use Rattle.pres_batch_rows.proofs.Statements.{insert_text}
use Rattle.pres_batch_rows.proofs.Grouping.{HasPut}
use Rattle.pres_batch_rows.proofs.insert.insert_all.Given as goal

abbrev pub invariant-loop-row : goal.invariant-loop-row
invariant-loop-row g l =
    let old = state g.S.Store l.fn.connection in
    let now = state g.S.Store l.tx.conn.now in
    (l.tx.conn.ghost_name ≡ l.initial.tx.conn.ghost_name)
    × (l.number ≡ l.first + l.row-index)
    × Survives old now (λ _. ⊥)
    × (HasCleanDisk now → l.statement-inside.text ≡ insert_text)
    × (HasCleanDisk now → Awaits old l.first → HasPut old now l.first (map saved_of (take l.row-index l.rows)))
    × AllByRecursion HasMoment (map saved_of (take l.row-index l.rows))
