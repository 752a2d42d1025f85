use Rattle.std.proofs.Common.{arith}
use Rattle.std.proofs.lemmas.Grind.{common_steps}
use Rattle.pres_batch_json.proofs.entry.denied_value.Goals as goal

pub returns-clause-form : goal.returns-clause-form
returns-clause-form c = grind (arith, common_steps)

pub returns-clause-json : goal.returns-clause-json
returns-clause-json c = grind (arith, common_steps)
