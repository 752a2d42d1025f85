use Rattle.std.proofs.Common.{arith}
use Rattle.std.proofs.lemmas.Grind.{common_steps}
use Rattle.pres_wire.proofs.up.Up.to_value.Goals as goal

pub returns-in-Left-clause-reads_back : goal.returns-in-Left-clause-reads_back
returns-in-Left-clause-reads_back c = grind (arith, common_steps)

pub returns-in-Op-clause-reads_back : goal.returns-in-Op-clause-reads_back
returns-in-Op-clause-reads_back c = grind (arith, common_steps)

pub returns-in-Cancel-clause-reads_back : goal.returns-in-Cancel-clause-reads_back
returns-in-Cancel-clause-reads_back c = grind (arith, common_steps)

pub returns-in-On-clause-reads_back : goal.returns-in-On-clause-reads_back
returns-in-On-clause-reads_back c = grind (arith, common_steps)

pub returns-in-Off-clause-reads_back : goal.returns-in-Off-clause-reads_back
returns-in-Off-clause-reads_back c = grind (arith, common_steps)
