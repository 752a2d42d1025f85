use Rattle.std.proofs.Common.{◌∷◌, []}
use Rattle.std.specs.Prelude.{codes}
use Rattle.json.specs.Token.{begin_object, end_object, key}
use Rattle.serde_json.specs.Data.{string}
use Rattle.pres_tree.specs.JsonPrinting.{tokens_of}
use Rattle.pres_tree.proofs.Printing.{on_ok}
use Rattle.pres_ids.specs.Forms.{stamp_json}
use Rattle.pres_batch_json.specs.Entries.{list_json}
use Rattle.pres_base_json.specs.Forms.{answer_json}
use Rattle.pres_base_json.proofs.Fields.{five}
use Rattle.pres_base_json.proofs.part.ClientPartBodyJson.write.Goals as goal

pub returns-clause-ok : goal.returns-clause-ok
returns-clause-ok c =
    let client = c.args.self.now in
    on_ok c.end_object.result (five c.args.out.now.tokens c.begin_object.new.self.tokens c.write_field.new.out.tokens c.write_field-2.new.out.tokens c.write_field-3.new.out.tokens c.end_object.new.self.tokens
    (begin_object ∷ []) (key (codes "id") ∷ tokens_of (string client.id)) (key (codes "last") ∷ tokens_of (stamp_json client.last)) (key (codes "rows") ∷ tokens_of (list_json answer_json client.rows)) (end_object ∷ [])
    c.in_ok-begin_object.ensures.ok c.in_ok-write_field.ensures.ok c.in_ok-write_field-2.ensures.ok c.in_ok-write_field-3.ensures.ok) c.end_object.ensures.ok
