use Rattle.std.proofs.Common.{arith}
use Rattle.std.proofs.lemmas.Grind.{common_steps}
use Rattle.pres_batch_json.proofs.part.outcome_value.Goals as goal

pub returns-in-Ok-json-2-clause-low : goal.returns-in-Ok-json-2-clause-low
returns-in-Ok-json-2-clause-low c = grind (arith, common_steps)

pub returns-in-Ok-json-2-clause-reads_back : goal.returns-in-Ok-json-2-clause-reads_back
returns-in-Ok-json-2-clause-reads_back c = grind (arith, common_steps)

pub returns-in-Ok-json-4-clause-low : goal.returns-in-Ok-json-4-clause-low
returns-in-Ok-json-4-clause-low c = grind (arith, common_steps)

pub returns-in-Ok-json-4-clause-reads_back : goal.returns-in-Ok-json-4-clause-reads_back
returns-in-Ok-json-4-clause-reads_back c = grind (arith, common_steps)
