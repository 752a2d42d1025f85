use Rattle.std.proofs.Common.{◌∙◌, ap, subst}
use Rattle.std.specs.Prelude.{string_bytes}
use Rattle.serde_json.specs.View.{view}
use Rattle.pres_tree.specs.Paths.{path_text}
use Rattle.pres_tree.specs.JsonPrinting.{ReadsBack}
use Rattle.pres_tree.specs.Rows.{Rows}
use Rattle.pres_tree.proofs.Texts.{segments-path_text, path_fault-path_text}
use Rattle.pres_write.specs.declared.draft.DraftLeaf.{DraftLeaf}
use Rattle.pres_write.specs.declared.op.Op.TheVariants.{Set}
use Rattle.pres_write.specs.Drafts.{slot_reading}
use Rattle.pres_write.specs.OpForms.{op_read, set_form}
use Rattle.pres_write.proofs.Depths.{fits_height}
use Rattle.pres_write.proofs.Printed.{reads_put, reads_made}
use Rattle.pres_write.proofs.op.set_value.Goals as goal

pub returns-clause-reads_back : goal.returns-clause-reads_back
returns-clause-reads_back c =
    let placement = c.args.placement.now in
    let keys = c.path.ensures.keys in
    let made = view c.in_ok-value.value in
    reads_made c.set_form.result (set_form (string_bytes c.in_ok-path.path) made) (Set placement) c.set_form.ensures
    (ap (λ text. op_read (set_form text made)) (c.in_ok-path.ensures.text ∙ ap path_text c.path.ensures.path)
    ∙ reads_put placement.0 placement.1 made (segments-path_text placement.0 keys) (path_fault-path_text placement.0 keys)
    (subst (λ (v : Rows DraftLeaf). ReadsBack slot_reading v made) c.draft.ensures c.in_ok-value.ensures.reads_back)
    (fits_height placement.0 placement.1 c.path.ensures.fits))
