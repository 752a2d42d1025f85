use Rattle.std.proofs.Common.{arith}
use Rattle.std.proofs.lemmas.Grind.{common_steps}
use Rattle.pres_plan.proofs.plan.put_rows.Goals as goal

pub loop-placement-preserved : goal.loop-placement-preserved
loop-placement-preserved c = grind (arith, common_steps)
