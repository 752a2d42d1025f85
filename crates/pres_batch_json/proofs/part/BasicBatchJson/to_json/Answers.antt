use Rattle.std.proofs.Common.{◌∙◌, ap}
use Rattle.pres_batch_json.proofs.Forms.{ok_so, unwrapped, write_nests}
use Rattle.pres_batch_json.proofs.part.BasicBatchJson.to_json.Goals as goal

pub returns-clause-low : goal.returns-clause-low
returns-clause-low c =
    let value = ap (λ r. r.now) c.unwrap_or-value.ensures ∙ unwrapped (λ r. r.now) c.value.result _ c.args.self.now.value c.value.ensures.value c.empty-null.ensures in
    ok_so c.row_value-made.result (write_nests c.args.self.now c.path.result.now c.unwrap_or-value.result.now c.path.ensures.path value) c.row_value-made.ensures.rows
