use Rattle.std.proofs.Common.{◌∷◌, []}
use Rattle.std.specs.Prelude.{codes}
use Rattle.json.specs.Token.{begin_object, end_object, key}
use Rattle.pres_tree.specs.JsonPrinting.{json_of, tokens_of}
use Rattle.pres_tree.specs.Scalars.{scalar_printing}
use Rattle.pres_tree.proofs.Printing.{on_ok}
use Rattle.pres_ids.specs.Forms.{whole}
use Rattle.pres_batch_json.specs.Entries.{list_json}
use Rattle.pres_base_json.specs.Forms.{client_json, session_part_json}
use Rattle.pres_base_json.proofs.Fields.{six}
use Rattle.pres_base_json.proofs.body.write_parts.Goals as goal

pub returns-clause-ok : goal.returns-clause-ok
returns-clause-ok c =
    let p = c.args.parts.now in
    on_ok c.end_object.result (six c.args.out.now.tokens c.begin_object.new.self.tokens c.write_field.new.out.tokens c.write_field-2.new.out.tokens c.write_field-3.new.out.tokens c.write_field-4.new.out.tokens c.end_object.new.self.tokens
    (begin_object ∷ []) (key (codes "clients") ∷ tokens_of (list_json client_json p.clients)) (key (codes "number") ∷ tokens_of (whole p.number)) (key (codes "sessions") ∷ tokens_of (list_json session_part_json p.sessions))
    (key (codes "tree") ∷ tokens_of (json_of scalar_printing p.tree)) (end_object ∷ [])
    c.in_ok-begin_object.ensures.ok c.in_ok-write_field.ensures.ok c.in_ok-write_field-2.ensures.ok c.in_ok-write_field-3.ensures.ok c.in_ok-write_field-4.ensures.ok) c.end_object.ensures.ok
