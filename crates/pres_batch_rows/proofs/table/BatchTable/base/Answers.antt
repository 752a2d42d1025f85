use Rattle.std.proofs.Common.{◌+◌, arith}
use Rattle.sqlite.specs.State.{HasCleanDisk}
use Rattle.sqlite.specs.Held.{state}
use Rattle.pres_batch_rows.proofs.Formats.{awaits_left}
use Rattle.pres_batch_rows.proofs.Opening.{match_ok, match_err}
use Rattle.pres_batch_rows.proofs.table.BatchTable.base.Goals as goal

pub returns-clause-left : goal.returns-clause-left
returns-clause-left g c = rw (← c.self.view_is) (λ clean serves. c.read_checkpoint.ensures.left clean (c.self.inside.last + 1) serves)

pub returns-clause-serves : goal.returns-clause-serves
returns-clause-serves g c =
    let old = state g.S.Store c.self.inside.connection in
    let new = state g.S.Store c.read_checkpoint.new.connection in
    let k = c.self.inside.last + 1 in
    rw (← c.self.view_is) (λ serves clean.
    let early : HasCleanDisk old = omega (arith, c.read_checkpoint.ensures.crash.clean, clean) in
    awaits_left old new k (serves early) (c.read_checkpoint.ensures.left clean k serves))

pub returns-clause-ok : goal.returns-clause-ok
returns-clause-ok g c = rw (← c.self.view_is) (λ clean serves. match_ok c.read_checkpoint.result _ _ _ (λ found read. read) (c.read_checkpoint.ensures.read clean (c.self.inside.last + 1) serves))

pub returns-clause-bad : goal.returns-clause-bad
returns-clause-bad g c = rw (← c.self.view_is) (λ clean serves. match_err c.read_checkpoint.result _ _ (c.read_checkpoint.ensures.read clean (c.self.inside.last + 1) serves))
