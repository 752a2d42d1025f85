use Rattle.std.proofs.Common.{arith}
use Rattle.std.proofs.lemmas.Grind.{common_steps}
use Rattle.pres_write.proofs.puts.Puts.copy.Goals as goal

pub returns : goal.returns
returns c = grind (arith, common_steps)

pub invariant_of-result : goal.invariant_of-result
invariant_of-result c = grind (arith, common_steps)

pub loop-placement-preserved : goal.loop-placement-preserved
loop-placement-preserved c = grind (arith, common_steps)
