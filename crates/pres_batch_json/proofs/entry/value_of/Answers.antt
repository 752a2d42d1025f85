use Rattle.std.proofs.Common.{sym, ap, subst, ◌∙◌}
use Rattle.std.specs.Prelude.{IfOk}
use Rattle.pres_log.specs.declared.entry.Entry.{Entry}
use Rattle.pres_log.specs.declared.entry.Entry.TheVariants as entry
use Rattle.pres_batch_json.specs.Reads.{HasForm}
use Rattle.pres_batch_json.proofs.entry.value_of.Goals as goal
use Rattle.std.proofs.Common.{arith}
use Rattle.std.proofs.lemmas.Grind.{common_steps}

pub returns-in-Ended-clause-form : goal.returns-in-Ended-clause-form
returns-in-Ended-clause-form c =
    let is = ap (λ rows. entry.Ended c.in-Ended.session c.in-Ended.q c.in-Ended.why rows) c.as_slice.ensures ∙ sym c.in-Ended.is in
    subst (λ (e : Entry). IfOk c.ended_value.result (λ _. HasForm e)) is c.ended_value.ensures.form

pub returns-in-Left-clause-form : goal.returns-in-Left-clause-form
returns-in-Left-clause-form c = grind (arith, common_steps)

pub returns-in-Cancelled-clause-form : goal.returns-in-Cancelled-clause-form
returns-in-Cancelled-clause-form c = grind (arith, common_steps)

pub returns-in-Off-clause-form : goal.returns-in-Off-clause-form
returns-in-Off-clause-form c = grind (arith, common_steps)

pub returns-in-Again-clause-form : goal.returns-in-Again-clause-form
returns-in-Again-clause-form c = grind (arith, common_steps)

pub returns-in-On-clause-form : goal.returns-in-On-clause-form
returns-in-On-clause-form c = grind (arith, common_steps)
