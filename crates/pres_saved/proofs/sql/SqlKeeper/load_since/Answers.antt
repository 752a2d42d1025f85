use Rattle.std.proofs.Common.{Ok, sym, ap, ◌∙◌}
use Rattle.sqlite.specs.Held.{state}
use Rattle.pres_batch_rows.specs.RowContents.{shown_rows}
use Rattle.pres_keeper.specs.Keepers.{base_sum}
use Rattle.pres_saved.proofs.Refused.{all_read, unread}
use Rattle.pres_saved.proofs.sql.SqlKeeper.load_since.Goals as goal

pub returns-in-Err-clause-refused : goal.returns-in-Err-clause-refused
returns-in-Err-clause-refused g c = rw (← c.self.view_is) (λ clean serves.
    unread (base_sum c.args.base.now) (shown_rows (state g.S.Store c.self.inside.table.connection)) _ _ c.in-Err.fault c.since-all.ensures (rw (c.batches_before.ensures) at (c.in-Err.ensures.goes clean serves)))

pub returns-clause-batches : goal.returns-clause-batches
returns-clause-batches g c = rw (← c.self.view_is) (λ clean serves.
    all_read (base_sum c.args.base.now) (shown_rows (state g.S.Store c.self.inside.table.connection)) _ _ c.since-all.ensures (rw (c.batches_before.ensures) at (c.in_default.ensures.goes clean serves))
    ∙ ap Ok (sym c.into_batches.ensures))
