use Rattle.std.proofs.Common.{arith}
use Rattle.std.proofs.lemmas.Grind.{common_steps}
use Rattle.pres_server.proofs.index.Index.decide_beat.Goals as goal

pub returns : goal.returns
returns c = grind (arith, common_steps)
