use Rattle.std.proofs.Common.{arith}
use Rattle.std.proofs.lemmas.Grind.{common_steps}
use Rattle.pres_batch_json.proofs.entry.done_value.Goals as goal

pub returns-clause-low : goal.returns-clause-low
returns-clause-low c = grind (arith, common_steps)

pub returns-clause-form : goal.returns-clause-form
returns-clause-form c = grind (arith, common_steps)

pub returns-clause-json : goal.returns-clause-json
returns-clause-json c = grind (arith, common_steps)
