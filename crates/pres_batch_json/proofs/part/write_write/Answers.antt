use Rattle.std.proofs.Common.{◌∙◌, ap}
use Rattle.pres_tree.proofs.Printing.{on_ok}
use Rattle.pres_batch_json.proofs.Forms.{unwrapped, write_nests}
use Rattle.pres_batch_json.proofs.part.write_write.Goals as goal

pub returns-clause-low : goal.returns-clause-low
returns-clause-low c =
    let value = ap (λ r. r.now) c.unwrap_or-value.ensures ∙ unwrapped (λ r. r.now) c.value.result _ c.args.write.now.value c.value.ensures.value c.empty-null.ensures in
    on_ok c.write_row-made.result (write_nests c.args.write.now c.path.result.now c.unwrap_or-value.result.now c.path.ensures.path value) c.write_row-made.ensures.rows
