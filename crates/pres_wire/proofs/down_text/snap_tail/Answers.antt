use Rattle.std.proofs.Common.{◌∷◌, ◌++◌, ap, ◌∙◌, append_assoc}
use Rattle.std.specs.Prelude.{codes}
use Rattle.json.specs.Token.{key}
use Rattle.pres_tree.specs.JsonPrinting.{json_of, tokens_of}
use Rattle.pres_tree.specs.Scalars.{scalar_printing}
use Rattle.pres_tree.proofs.Printing.{on_ok}
use Rattle.pres_ids.specs.Forms.{whole, session_json}
use Rattle.pres_wire.proofs.down_text.snap_tail.Goals as goal
use Rattle.std.proofs.Common.{arith}
use Rattle.std.proofs.lemmas.Grind.{common_steps}

pub returns-clause-ok : goal.returns-clause-ok
returns-clause-ok c =
    on_ok c.number_field-2.result (λ last. last
    ∙ ap (λ ts. ts ++ key (codes "z") ∷ tokens_of (whole c.args.z)) (c.in_ok-value_field.ensures.ok
    ∙ ap (λ ts. ts ++ key (codes "value") ∷ tokens_of (json_of scalar_printing c.args.value.now)) (c.in_ok-session_field.ensures.ok
    ∙ ap (λ ts. ts ++ key (codes "s") ∷ tokens_of (session_json c.args.session.now)) c.in_ok-number_field.ensures.ok))
    ∙ simp append_assoc) c.number_field-2.ensures.ok

pub returns-clause-low : goal.returns-clause-low
returns-clause-low c = grind (arith, common_steps)

pub returns-clause-value : goal.returns-clause-value
returns-clause-value c = grind (arith, common_steps)

pub returns-clause-plain : goal.returns-clause-plain
returns-clause-plain c = grind (arith, common_steps)

pub returns-in_err-value_field-clause-z : goal.returns-in_err-value_field-clause-z
returns-in_err-value_field-clause-z c = grind (arith, common_steps)

pub returns-clause-session : goal.returns-clause-session
returns-clause-session c = grind (arith, common_steps)
