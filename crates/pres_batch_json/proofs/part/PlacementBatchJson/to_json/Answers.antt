use Rattle.pres_batch_json.proofs.Forms.{ok_so, put_nests}
use Rattle.pres_batch_json.proofs.part.PlacementBatchJson.to_json.Goals as goal

pub returns-clause-low : goal.returns-clause-low
returns-clause-low c =
    ok_so c.row_value.result (put_nests c.args.self.now c.path.result.now c.draft.result.now c.path.ensures.path c.draft.ensures) c.row_value.ensures.rows
