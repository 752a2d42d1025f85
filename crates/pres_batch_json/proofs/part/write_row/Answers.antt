use Rattle.std.proofs.Common.{refl}
use Rattle.pres_tree.specs.JsonPrinting.{json_of}
use Rattle.pres_tree.proofs.Printing.{on_any}
use Rattle.pres_batch_json.proofs.Below.{below_read}
use Rattle.pres_batch_json.proofs.part.write_row.Goals as goal
use Rattle.std.proofs.Common.{arith}
use Rattle.std.proofs.lemmas.Grind.{common_steps}

pub returns-clause-rows : goal.returns-clause-rows
returns-clause-rows g c =
    let v = c.args.rows.now in
    let d = json_of g.P.PrintedForm.printing v in
    on_any c.end_array.result (below_read g.P.LeafForm.reading c.args.path.now v d d c.requires refl c.in_ok-write_value.ensures.reads_back)

pub returns-clause-ok : goal.returns-clause-ok
returns-clause-ok g c = grind (arith, common_steps)

pub returns-clause-path : goal.returns-clause-path
returns-clause-path g c = grind (arith, common_steps)

pub returns-clause-plain : goal.returns-clause-plain
returns-clause-plain g c = grind (arith, common_steps)
