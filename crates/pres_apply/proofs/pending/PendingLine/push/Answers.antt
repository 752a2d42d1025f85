use Rattle.std.proofs.Common.{arith}
use Rattle.std.proofs.lemmas.Grind.{common_steps}
use Rattle.pres_apply.proofs.pending.PendingLine.push.Goals as goal

pub returns-then-self : goal.returns-then-self
returns-then-self c = grind (arith, common_steps)

pub returns-then-piece-len : goal.returns-then-piece-len
returns-then-piece-len c = grind (arith, common_steps)
