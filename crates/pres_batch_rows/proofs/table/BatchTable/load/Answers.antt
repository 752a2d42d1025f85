use Rattle.std.proofs.Common.{◌++◌, map, Ok, sym, ap, ◌∙◌}
use Rattle.sqlite.specs.Held.{state}
use Rattle.pres_batch_rows.specs.RowContents.{saved_of, saved_front, shown_rows}
use Rattle.pres_batch_rows.specs.declared.take.Collector.{Collector}
use Rattle.pres_batch_rows.proofs.Collecting.{collected}
use Rattle.pres_batch_rows.proofs.table.BatchTable.load.Goals as goal
use Rattle.std.proofs.Common.{arith}
use Rattle.std.proofs.lemmas.Grind.{common_steps}

pub returns-clause-ok : goal.returns-clause-ok
returns-clause-ok g c clean serves =
    let it = c.in_ok-each.ensures.goes clean serves in
    let front = saved_front c.args.behind (shown_rows (state g.S.Store c.args.self.now.connection)) in
    let all = collected (λ (kept : Collector). map saved_of kept.rows.items) front _ _ it.1 in
    it.0 ∙ ap Ok (sym (all ∙ ap (λ rows. map saved_of rows ++ front) c.new.ensures.items))

pub returns-in_err-each-clause-bad : goal.returns-in_err-each-clause-bad
returns-in_err-each-clause-bad g c = grind (arith, common_steps)
