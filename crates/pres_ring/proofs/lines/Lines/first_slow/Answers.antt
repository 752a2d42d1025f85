use Rattle.std.proofs.Common.{arith}
use Rattle.std.proofs.lemmas.Grind.{common_steps}
use Rattle.pres_ring.proofs.lines.Lines.first_slow.Goals as goal

pub returns-then-is_slow-clause-session : goal.returns-then-is_slow-clause-session
returns-then-is_slow-clause-session c = grind (arith, common_steps)
