use Rattle.std.proofs.Common.{◌∙◌, ap, subst}
use Rattle.std.specs.Prelude.{string_bytes}
use Rattle.serde_json.specs.View.{view}
use Rattle.pres_tree.specs.declared.scalar.Scalar.{Scalar}
use Rattle.pres_tree.specs.Paths.{path_text}
use Rattle.pres_tree.specs.JsonPrinting.{ReadsBack}
use Rattle.pres_tree.specs.Rows.{Rows}
use Rattle.pres_tree.specs.Scalars.{scalar_reading}
use Rattle.pres_tree.proofs.Texts.{segments-path_text, path_fault-path_text}
use Rattle.pres_write.specs.declared.draft.DraftLeaf.{DraftLeaf}
use Rattle.pres_write.specs.declared.op.Op.TheVariants.{Tx}
use Rattle.pres_write.specs.Drafts.{slot_reading}
use Rattle.pres_write.specs.OpForms.{op_read, tx_form}
use Rattle.pres_write.proofs.Depths.{fits_height}
use Rattle.pres_write.proofs.Forms.{reads_fixed}
use Rattle.pres_write.proofs.Printed.{reads_tx, reads_made}
use Rattle.pres_write.proofs.op.tx_value.Goals as goal

pub returns-clause-reads_back : goal.returns-clause-reads_back
returns-clause-reads_back c =
    let t = c.args.tx.now in
    let e = view c.in_ok-expect.expect in
    let d = view c.in-Ok.value in
    let keys = c.path.ensures.keys in
    reads_made c.tx_form.result (tx_form (string_bytes c.in_ok-path.path) e d) (Tx t) c.tx_form.ensures
    (ap (λ text. op_read (tx_form text e d)) (c.in_ok-path.ensures.text ∙ ap path_text c.path.ensures.path)
    ∙ reads_tx t e d (segments-path_text t.path keys) (path_fault-path_text t.path keys)
    (reads_fixed t.expect e (subst (λ (v : Rows Scalar). ReadsBack scalar_reading v e) c.expect.ensures c.in_ok-expect.ensures.reads_back))
    (subst (λ (v : Rows DraftLeaf). ReadsBack slot_reading v d) c.draft.ensures c.in-Ok.ensures.reads_back)
    (fits_height t.path t.expect c.path.ensures.expect) (fits_height t.path t.new c.path.ensures.new))
