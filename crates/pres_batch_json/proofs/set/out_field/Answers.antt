use Rattle.std.proofs.Common.{arith}
use Rattle.std.proofs.lemmas.Grind.{common_steps}
use Rattle.pres_batch_json.proofs.set.out_field.Goals as goal

pub returns-clause-low : goal.returns-clause-low
returns-clause-low c = grind (arith, common_steps)

pub returns-clause-plain : goal.returns-clause-plain
returns-clause-plain c = grind (arith, common_steps)

pub returns-clause-reads_back : goal.returns-clause-reads_back
returns-clause-reads_back c = grind (arith, common_steps)

pub returns-clause-ok : goal.returns-clause-ok
returns-clause-ok c = grind (arith, common_steps)
