use Rattle.std.proofs.Common.{◌∙◌, ap₂}
use Rattle.sqlite.specs.Held.{state}
use Rattle.pres_saved.specs.SavedHistories.{saved_history, readable_rows}
use Rattle.pres_saved.proofs.Opening.{found_rows}
use Rattle.pres_saved.proofs.sql.SqlKeeper.open.Goals as goal

pub returns-in-Ok-clause-ready : goal.returns-in-Ok-clause-ready
returns-in-Ok-clause-ready g c = λ ours. record { serves = c.in-Ok.ensures.serves ours; last = λ works. (c.in-Ok.ensures.found works.clean ours).last }

pub returns-in-Ok-clause-read : goal.returns-in-Ok-clause-read
returns-in-Ok-clause-read g c = λ clean ours.
    let same = found_rows (state g.S.Store c.args.connection) (state g.S.Store c.in-Ok.table.connection) ours (c.in-Ok.ensures.found clean ours).kept in
    ap₂ readable_rows same.0 same.1

pub returns-in-Ok-clause-found : goal.returns-in-Ok-clause-found
returns-in-Ok-clause-found g c = λ history clean ours kept.
    let same = found_rows (state g.S.Store c.args.connection) (state g.S.Store c.in-Ok.table.connection) ours (c.in-Ok.ensures.found clean ours).kept in
    ap₂ saved_history same.0 same.1 ∙ kept
