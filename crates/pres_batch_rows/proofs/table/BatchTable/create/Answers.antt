use Rattle.sqlite.specs.Held.{state}
use Rattle.pres_batch_rows.proofs.Opening.{awaits_made}
use Rattle.pres_batch_rows.proofs.table.BatchTable.create.Goals as goal

pub returns-in-Ok-clause-serves : goal.returns-in-Ok-clause-serves
returns-in-Ok-clause-serves g c = λ has clean. awaits_made (state g.S.Store c.make.new.connection) (c.in-Ok.ensures.ok clean has)
