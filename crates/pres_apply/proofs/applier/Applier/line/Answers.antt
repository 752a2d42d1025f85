use Rattle.std.proofs.Common.{arith}
use Rattle.std.proofs.lemmas.Grind.{common_steps}
use Rattle.pres_apply.proofs.applier.Applier.line.Goals as goal

pub returns-in-Ok-clause-state : goal.returns-in-Ok-clause-state
returns-in-Ok-clause-state c = grind (arith, common_steps)

pub returns-in-Ok-clause-text : goal.returns-in-Ok-clause-text
returns-in-Ok-clause-text c = grind (arith, common_steps)

pub returns-in_default-moment_of-clause-err : goal.returns-in_default-moment_of-clause-err
returns-in_default-moment_of-clause-err c = grind (arith, common_steps)

pub returns-clause-text : goal.returns-clause-text
returns-clause-text c = grind (arith, common_steps)

pub returns-clause-err : goal.returns-clause-err
returns-clause-err c = grind (arith, common_steps)

pub returns-clause-state : goal.returns-clause-state
returns-clause-state c = grind (arith, common_steps)
