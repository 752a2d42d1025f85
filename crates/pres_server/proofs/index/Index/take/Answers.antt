use Rattle.std.proofs.Common.{subst}
use Rattle.pres_server.specs.InternalIndex.{Carries}
use Rattle.pres_server.proofs.index.Index.take.Goals as goal
use Rattle.std.proofs.Common.{arith}
use Rattle.std.proofs.lemmas.Grind.{common_steps}

pub enter-requires : goal.enter-requires
enter-requires c = c.requires.entry c.carry_out.new.self (subst (λ writes. Carries writes c.args.self.now c.carry_out.new.self) c.writes.ensures c.in_ok-carry_out.ensures.carried)

pub returns : goal.returns
returns c = grind (arith, common_steps)
