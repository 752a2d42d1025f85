use Rattle.std.proofs.Common.{arith}
use Rattle.std.proofs.lemmas.Grind.{common_steps}
use Rattle.pres_wire.proofs.down_text.push_head.Goals as goal

pub returns-clause-plain : goal.returns-clause-plain
returns-clause-plain c = grind (arith, common_steps)

pub returns-clause-ok : goal.returns-clause-ok
returns-clause-ok c = grind (arith, common_steps)
