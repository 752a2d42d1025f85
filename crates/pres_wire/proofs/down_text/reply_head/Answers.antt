use Rattle.std.proofs.Common.{◌∷◌, ◌++◌, [], ap, ◌∙◌, append_assoc}
use Rattle.std.specs.Prelude.{codes}
use Rattle.json.specs.Token.{key, string}
use Rattle.pres_tree.specs.JsonPrinting.{tokens_of}
use Rattle.pres_tree.proofs.Printing.{on_ok}
use Rattle.pres_ids.specs.Forms.{whole}
use Rattle.pres_wire.proofs.down_text.reply_head.Goals as goal
use Rattle.std.proofs.Common.{arith}
use Rattle.std.proofs.lemmas.Grind.{common_steps}

pub returns-clause-ok : goal.returns-clause-ok
returns-clause-ok c =
    on_ok c.number_field-3.result (λ last. last
    ∙ ap (λ ts. ts ++ key (codes "q") ∷ tokens_of (whole c.args.q)) (c.in_ok-text_field-2.ensures.ok
    ∙ ap (λ ts. ts ++ key (codes "out") ∷ string (codes "wrote") ∷ []) (c.in_ok-number_field-2.ensures.ok
    ∙ ap (λ ts. ts ++ key (codes "n") ∷ tokens_of (whole c.args.n)) (c.in_ok-text_field.ensures.ok
    ∙ ap (λ ts. ts ++ key (codes "m") ∷ string (codes "reply") ∷ []) c.in_ok-number_field.ensures.ok)))
    ∙ simp append_assoc) c.number_field-3.ensures.ok

pub returns-clause-before : goal.returns-clause-before
returns-clause-before c = grind (arith, common_steps)

pub returns-in_err-text_field-2-clause-q : goal.returns-in_err-text_field-2-clause-q
returns-in_err-text_field-2-clause-q c = grind (arith, common_steps)

pub returns-clause-plain : goal.returns-clause-plain
returns-clause-plain c = grind (arith, common_steps)
