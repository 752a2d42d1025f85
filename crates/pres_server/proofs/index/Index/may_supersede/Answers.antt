use Rattle.std.proofs.Common.{arith}
use Rattle.std.proofs.lemmas.Grind.{common_steps}
use Rattle.pres_server.proofs.index.Index.may_supersede.Goals as goal

pub returns-then-not-leaves_room : goal.returns-then-not-leaves_room
returns-then-not-leaves_room c = grind (arith, common_steps)

pub returns-then-not-opens_newer : goal.returns-then-not-opens_newer
returns-then-not-opens_newer c = grind (arith, common_steps)

pub returns : goal.returns
returns c = grind (arith, common_steps)
