use Rattle.std.proofs.Common.{arith}
use Rattle.std.proofs.lemmas.Grind.{common_steps}
use Rattle.pres_client.proofs.client.Client.make.Goals as goal

pub returns-in-OnDisconnectUpdate-clause-err : goal.returns-in-OnDisconnectUpdate-clause-err
returns-in-OnDisconnectUpdate-clause-err c = grind (arith, common_steps)

pub returns-in-OnDisconnectUpdate-clause-ok : goal.returns-in-OnDisconnectUpdate-clause-ok
returns-in-OnDisconnectUpdate-clause-ok c = grind (arith, common_steps)

pub returns-in-OnDisconnectUpdate-clause-request : goal.returns-in-OnDisconnectUpdate-clause-request
returns-in-OnDisconnectUpdate-clause-request c = grind (arith, common_steps)

pub returns-in-Update-clause-ok : goal.returns-in-Update-clause-ok
returns-in-Update-clause-ok c = grind (arith, common_steps)

pub returns-in-Update-clause-request : goal.returns-in-Update-clause-request
returns-in-Update-clause-request c = grind (arith, common_steps)
