use Rattle.std.proofs.Common.{◌∷◌, ◌++◌, ap, ◌∙◌, append_assoc}
use Rattle.std.specs.Prelude.{codes}
use Rattle.json.specs.Token.{key}
use Rattle.pres_tree.specs.JsonPrinting.{tokens_of}
use Rattle.pres_tree.proofs.Printing.{on_ok}
use Rattle.pres_ids.specs.Forms.{whole, session_json}
use Rattle.pres_wire.proofs.down_text.reply_tail.Goals as goal
use Rattle.std.proofs.Common.{arith}
use Rattle.std.proofs.lemmas.Grind.{common_steps}

pub returns-clause-ok : goal.returns-clause-ok
returns-clause-ok c =
    let s = session_json c.args.session.now in
    on_ok c.number_field-2.result (λ last. last
    ∙ ap (λ ts. ts ++ key (codes "z") ∷ tokens_of (whole c.args.z)) (c.in_ok-session_field.ensures.ok
    ∙ ap (λ ts. ts ++ key (codes "s") ∷ tokens_of s) c.in_ok-number_field.ensures.ok)
    ∙ simp append_assoc) c.number_field-2.ensures.ok

pub returns-clause-session : goal.returns-clause-session
returns-clause-session c = grind (arith, common_steps)
