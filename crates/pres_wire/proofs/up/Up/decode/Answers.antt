use Rattle.std.proofs.Common.{arith}
use Rattle.std.proofs.lemmas.Grind.{common_steps}
use Rattle.pres_wire.proofs.up.Up.decode.Goals as goal

pub returns-in-Ok-clause-message : goal.returns-in-Ok-clause-message
returns-in-Ok-clause-message c = grind (arith, common_steps)

pub returns-then-is_memory-clause-message : goal.returns-then-is_memory-clause-message
returns-then-is_memory-clause-message c = grind (arith, common_steps)

pub returns-else-is_memory-clause-message : goal.returns-else-is_memory-clause-message
returns-else-is_memory-clause-message c = grind (arith, common_steps)
