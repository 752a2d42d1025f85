use Rattle.std.proofs.Common.{arith}
use Rattle.std.proofs.lemmas.Grind.{common_steps}
use Rattle.pres_wire.proofs.values.read_items.Goals as goal

pub returns-in_default : goal.returns-in_default
returns-in_default c = grind (arith, common_steps)

pub returns : goal.returns
returns c = grind (arith, common_steps)

pub loop-item-preserved : goal.loop-item-preserved
loop-item-preserved c = grind (arith, common_steps)
