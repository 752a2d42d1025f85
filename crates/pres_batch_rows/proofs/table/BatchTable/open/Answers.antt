use Rattle.sqlite.specs.Held.{state}
use Rattle.pres_batch_rows.proofs.Opening.{awaits_found}
use Rattle.pres_batch_rows.proofs.table.BatchTable.open.Goals as goal

pub returns-in-Ok-clause-serves : goal.returns-in-Ok-clause-serves
returns-in-Ok-clause-serves g c = λ ours clean. awaits_found (state g.S.Store c.args.connection) (state g.S.Store c.find.new.connection) c.in-Ok.last (c.in-Ok.ensures.found clean ours)

pub returns-in-Ok-clause-found : goal.returns-in-Ok-clause-found
returns-in-Ok-clause-found g c = λ clean ours. c.in-Ok.ensures.found clean ours

pub returns-in-Ok-clause-crash : goal.returns-in-Ok-clause-crash
returns-in-Ok-clause-crash g c = c.find.ensures.crash

pub returns-in-Err-clause-crash : goal.returns-in-Err-clause-crash
returns-in-Err-clause-crash g c = c.find.ensures.crash

pub returns-in-Err-clause-left : goal.returns-in-Err-clause-left
returns-in-Err-clause-left g c = λ clean. c.in-Err.ensures.left clean
