use Rattle.std.proofs.Common.{arith}
use Rattle.std.proofs.lemmas.Grind.{common_steps}
use Rattle.pres_wire.proofs.up.Up.copy.Goals as goal

pub returns-in_ok-copy-in-Off : goal.returns-in_ok-copy-in-Off
returns-in_ok-copy-in-Off c = grind (arith, common_steps)

pub returns-in_ok-copy-in-On : goal.returns-in_ok-copy-in-On
returns-in_ok-copy-in-On c = grind (arith, common_steps)

pub returns-in_ok-copy-in-Cancel : goal.returns-in_ok-copy-in-Cancel
returns-in_ok-copy-in-Cancel c = grind (arith, common_steps)

pub returns-in_ok-copy-in-Op : goal.returns-in_ok-copy-in-Op
returns-in_ok-copy-in-Op c = grind (arith, common_steps)

pub returns-in_ok-copy-in-Left : goal.returns-in_ok-copy-in-Left
returns-in_ok-copy-in-Left c = grind (arith, common_steps)

pub returns-in-Beat : goal.returns-in-Beat
returns-in-Beat c = grind (arith, common_steps)

pub returns-in-Hello : goal.returns-in-Hello
returns-in-Hello c = grind (arith, common_steps)

pub returns-in-Bye : goal.returns-in-Bye
returns-in-Bye c = grind (arith, common_steps)
