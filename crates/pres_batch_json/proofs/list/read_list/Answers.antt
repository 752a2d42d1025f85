use Rattle.std.proofs.Common.{arith}
use Rattle.std.proofs.lemmas.Grind.{common_steps}
use Rattle.pres_batch_json.proofs.list.read_list.Goals as goal

pub returns-in_default : goal.returns-in_default
returns-in_default g c = grind (arith, common_steps)

pub returns-in-None : goal.returns-in-None
returns-in-None g c = grind (arith, common_steps)

pub returns-in-Some-2 : goal.returns-in-Some-2
returns-in-Some-2 g c = grind (arith, common_steps)
