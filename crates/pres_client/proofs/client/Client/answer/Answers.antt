use Rattle.std.proofs.Common.{arith}
use Rattle.std.proofs.lemmas.Grind.{common_steps}
use Rattle.pres_client.proofs.client.Client.answer.Goals as goal

pub returns-in-Abort-clause-err : goal.returns-in-Abort-clause-err
returns-in-Abort-clause-err c = grind (arith, common_steps)

pub returns-in-Abort-clause-few : goal.returns-in-Abort-clause-few
returns-in-Abort-clause-few c = grind (arith, common_steps)

pub returns-in-New-clause-few : goal.returns-in-New-clause-few
returns-in-New-clause-few c = grind (arith, common_steps)

pub returns-in-New-clause-ok : goal.returns-in-New-clause-ok
returns-in-New-clause-ok c = grind (arith, common_steps)

pub returns-in-Abort-clause-ok : goal.returns-in-Abort-clause-ok
returns-in-Abort-clause-ok c = grind (arith, common_steps)

pub returns-then-is_none-clause-err : goal.returns-then-is_none-clause-err
returns-then-is_none-clause-err c = grind (arith, common_steps)

pub returns-in-New-clause-err : goal.returns-in-New-clause-err
returns-in-New-clause-err c = grind (arith, common_steps)
