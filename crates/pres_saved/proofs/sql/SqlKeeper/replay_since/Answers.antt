use Rattle.std.proofs.Common.{Ok, sym, ap, subst, ◌∙◌, ◌≡◌, inl}
use Rattle.std.proofs.lemmas.Result.{err_from_is_err_and}
use Rattle.sqlite.specs.Held.{state}
use Rattle.sqlite.specs.State.{HasCleanDisk}
use Rattle.pres_batch_rows.specs.RowContents.{shown_rows}
use Rattle.pres_batch_rows.specs.TableStates.{Serves}
use Rattle.pres_server.specs.Sums.{Sum}
use Rattle.pres_server.specs.SumStates.{SumState}
use Rattle.pres_server.specs.Histories.{IsSum, History}
use Rattle.pres_server.specs.Replays.{resumed}
use Rattle.pres_keeper.specs.Keepers.{KeepsOneNull, SomeHistory, base_sum}
use Rattle.pres_saved.specs.SavedHistories.{rows_log, rows_readable}
use Rattle.pres_saved.proofs.Refused.{all_served, unserved, store_unserved, nulls_served}
use Rattle.pres_saved.proofs.sql.SqlKeeper.replay_since.Goals as goal

pub returns-in_err-made-clause-refused : goal.returns-in_err-made-clause-refused
returns-in_err-made-clause-refused g c = rw (← c.self.view_is) (λ clean serves.
    let p = err_from_is_err_and c.from_residual.result c.from_residual.ensures.1 in
    rw (p.1, p.2) (store_unserved (rows_readable (base_sum c.args.base) (shown_rows (state g.S.Store c.self.inside.table.connection))) _ (inl c.in_err-made.ensures.refused)))

pub returns-in-Err-clause-refused : goal.returns-in-Err-clause-refused
returns-in-Err-clause-refused g c = rw (← c.self.view_is) (λ clean serves.
    let k : IsSum (base_sum c.args.base) = subst IsSum c.in_ok-made.ensures.sum c.in_ok-made.ensures.holds in
    unserved (base_sum c.args.base) (shown_rows (state g.S.Store c.self.inside.table.connection)) k _ _ c.in-Err.fault c.in_ok-made.ensures.sum (rw (c.batches_before-behind.ensures) at (c.in-Err.ensures.goes clean serves)))

pub returns-clause-server : goal.returns-clause-server
returns-clause-server g c = rw (← c.self.view_is) (
    let base : Sum = base_sum c.args.base in
    let k : IsSum base = subst IsSum c.in_ok-made.ensures.sum c.in_ok-made.ensures.holds in
    let shown = shown_rows (state g.S.Store c.self.inside.table.connection) in
    let clean = HasCleanDisk (state g.S.Store c.each.new.self.connection) in
    let serves = Serves g.S.Store c.self.inside.table in
    subst (λ (s : SumState). SomeHistory (λ (history : History). (history.base ≡ base) × (clean → serves → rows_log base shown ≡ Ok history.log)) s.sum) (sym c.finish.ensures)
    (all_served base shown k clean serves _ _ c.in_ok-made.ensures.sum (rw (c.batches_before-behind.ensures) at c.in_default.ensures.taken)))

pub returns-clause-made : goal.returns-clause-made
returns-clause-made g c = c.finish.ensures ∙ ap (λ (s : SumState). resumed s.sum) (sym c.finish.ensures)

pub returns-clause-nulls : goal.returns-clause-nulls
returns-clause-nulls g c = λ nulls.
    let base : Sum = base_sum c.args.base in
    let k : IsSum base = subst IsSum c.in_ok-made.ensures.sum c.in_ok-made.ensures.holds in
    let shown = shown_rows (state g.S.Store c.self.inside.table.connection) in
    let clean = HasCleanDisk (state g.S.Store c.each.new.self.connection) in
    let serves = Serves g.S.Store c.self.inside.table in
    let it = all_served base shown k clean serves _ _ c.in_ok-made.ensures.sum (rw (c.batches_before-behind.ensures) at c.in_default.ensures.taken) in
    subst (λ (s : SumState). KeepsOneNull s.sum) (sym c.finish.ensures) (nulls_served it.history _ it.leads (subst KeepsOneNull (sym it.held.0) nulls))
