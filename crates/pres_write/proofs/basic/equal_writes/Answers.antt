use Rattle.std.proofs.Common.{arith}
use Rattle.std.proofs.lemmas.Grind.{common_steps}
use Rattle.pres_write.proofs.basic.equal_writes.Goals as goal

pub returns-in_default : goal.returns-in_default
returns-in_default c = grind (arith, common_steps)

pub loop-write-preserved : goal.loop-write-preserved
loop-write-preserved c = grind (arith, common_steps)

pub returns-then-not-equal : goal.returns-then-not-equal
returns-then-not-equal c = grind (arith, common_steps)

pub returns : goal.returns
returns c = grind (arith, common_steps)
