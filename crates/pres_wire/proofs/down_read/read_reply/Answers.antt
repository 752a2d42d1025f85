use Rattle.std.proofs.Common.{arith}
use Rattle.std.proofs.lemmas.Grind.{common_steps}
use Rattle.pres_wire.proofs.down_read.read_reply.Goals as goal

pub returns-in_err-done : goal.returns-in_err-done
returns-in_err-done c = grind (arith, common_steps)

pub returns : goal.returns
returns c = grind (arith, common_steps)

pub returns-in_err-out : goal.returns-in_err-out
returns-in_err-out c = grind (arith, common_steps)
