use Rattle.std.proofs.Common.{arith}
use Rattle.std.proofs.lemmas.Grind.{common_steps}
use Rattle.pres_write.proofs.op.read_update.Goals as goal

pub returns-in_err-path : goal.returns-in_err-path
returns-in_err-path c = grind (arith, common_steps)

pub returns-in_err-from_members : goal.returns-in_err-from_members
returns-in_err-from_members c = grind (arith, common_steps)

pub returns : goal.returns
returns c = grind (arith, common_steps)
