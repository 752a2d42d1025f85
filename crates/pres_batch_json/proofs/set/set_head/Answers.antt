use Rattle.std.proofs.Common.{◌∷◌, []}
use Rattle.std.specs.Prelude.{codes}
use Rattle.json.specs.Token.{key, string}
use Rattle.pres_tree.specs.JsonPrinting.{tokens_of}
use Rattle.pres_tree.proofs.Printing.{on_ok}
use Rattle.pres_ids.specs.Forms.{whole}
use Rattle.pres_write.specs.OpForms.{op_json}
use Rattle.pres_write.specs.declared.op.Op.TheVariants as op
use Rattle.pres_write.specs.declared.outcome.Outcome.TheVariants as outcome
use Rattle.pres_batch_json.specs.Entries.{outcome_json}
use Rattle.pres_batch_json.proofs.Joined.{four}
use Rattle.pres_batch_json.proofs.set.set_head.Goals as goal
use Rattle.std.proofs.Common.{arith}
use Rattle.std.proofs.lemmas.Grind.{common_steps}

pub returns-clause-ok : goal.returns-clause-ok
returns-clause-ok c =
    on_ok c.out_field.result (four c.args.out.now.tokens c.text_field.new.out.tokens c.number_field.new.out.tokens c.op_field.new.out.tokens c.out_field.new.out.tokens
    (key (codes "e") ∷ string (codes "op") ∷ []) (key (codes "n") ∷ tokens_of (whole c.args.n)) (key (codes "op") ∷ tokens_of (op_json (op.Set c.args.placement.now)))
    (key (codes "out") ∷ tokens_of (outcome_json (outcome.Wrote (c.args.write.now ∷ []))))
    c.in_ok-text_field.ensures.ok c.in_ok-number_field.ensures.ok c.in_ok-op_field.ensures.ok) c.out_field.ensures.ok

pub returns-clause-plain : goal.returns-clause-plain
returns-clause-plain c = grind (arith, common_steps)

pub returns-clause-op : goal.returns-clause-op
returns-clause-op c = grind (arith, common_steps)
