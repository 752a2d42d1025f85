use Rattle.serde_json.specs.View.{view}
use Rattle.pres_tree.specs.JsonPrinting.{json_of}
use Rattle.pres_batch_json.proofs.Below.{below_read}
use Rattle.pres_batch_json.proofs.part.row_value.Goals as goal
use Rattle.std.proofs.Common.{arith}
use Rattle.std.proofs.lemmas.Grind.{common_steps}

pub returns-clause-rows : goal.returns-clause-rows
returns-clause-rows g c =
    let v = c.args.rows.now in
    below_read g.P.LeafForm.reading c.args.path.now v (view c.in_ok-to_value.field-0) (json_of g.P.PrintedForm.printing v) c.requires c.in_ok-to_value.ensures.json c.in_ok-to_value.ensures.reads_back

pub returns-clause-path : goal.returns-clause-path
returns-clause-path g c = grind (arith, common_steps)
