use Rattle.std.proofs.Common.{◌≡◌, ◌<◌, ◌≤◌, ◌^◌, false}
use Rattle.sqlite.specs.State.{HasCleanDisk, IsUnchanged, Survives}
use Rattle.sqlite.specs.View.{doubt}
use Rattle.sqlite.specs.Held.{state}
use Rattle.pres_batch_rows.specs.TableStates.{HoldsBatches}
use Rattle.pres_batch_rows.proofs.Finding.{Counting}
use Rattle.pres_batch_rows.proofs.last.last_number.Given as goal

abbrev pub invariant-rows : goal.invariant-rows
invariant-rows g l =
    let old = state g.S.Store l.fn.connection in
    let now = state g.S.Store l.rows.conn.now in
    (l.rows.conn.ghost_name ≡ l.initial.rows.conn.ghost_name)
    × (doubt old.is_clean ≤ doubt now.is_clean)
    × (l.fn.connection.in_transaction ≡ false → l.rows.conn.now.in_transaction ≡ false)
    × (l.last < 2 ^ 63)
    × Survives old now (λ _. ⊥)
    × (HasCleanDisk now → IsUnchanged old now)
    × (HasCleanDisk now → HoldsBatches old → Counting g.S.Store l.fn.connection l.rows.conn.now l.before l.last)
