use Rattle.std.proofs.Common.{◌≡◌, ◌++◌, ap, sym, subst, ◌∙◌}
use Rattle.std.specs.Prelude.{OnOk}
use Rattle.serde_json.specs.Written.{compact_text}
use Rattle.pres_tree.specs.JsonPrinting.{json_of}
use Rattle.pres_tree.specs.Scalars.{scalar_printing}
use Rattle.pres_inspect.proofs.Printing.{grown}
use Rattle.pres_inspect.proofs.tree.add_value.Goals as goal

pub returns-in-Some : goal.returns-in-Some
returns-in-Some c =
    let old = c.args.line.now.items in
    let new = c.print.new.out.items in
    subst (λ v. OnOk c.print.result (new ≡ old ++ compact_text (json_of scalar_printing v))) (sym c.in-Some.ensures.1) c.print.ensures.ok

pub returns-in-None : goal.returns-in-None
returns-in-None c =
    let old = c.args.line.now.items in
    grown c.extend_from_slice.result _ _ _ (λ is. is ∙ ap (λ v. old ++ compact_text (json_of scalar_printing v)) (sym c.in-None.ensures)) c.extend_from_slice.ensures.items
