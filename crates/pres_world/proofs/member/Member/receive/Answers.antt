use Rattle.std.proofs.Common.{arith}
use Rattle.std.proofs.lemmas.Grind.{common_steps}
use Rattle.pres_world.proofs.member.Member.receive.Goals as goal

pub put_out-requires : goal.put_out-requires
put_out-requires c = grind (arith, common_steps)

pub invariant_of-self-2 : goal.invariant_of-self-2
invariant_of-self-2 c = grind (arith, common_steps)

pub returns-in_err-receive-clause-stays : goal.returns-in_err-receive-clause-stays
returns-in_err-receive-clause-stays c = grind (arith, common_steps)

pub invariant_of-self : goal.invariant_of-self
invariant_of-self c = grind (arith, common_steps)

pub returns-clause-ok : goal.returns-clause-ok
returns-clause-ok c = grind (arith, common_steps)

pub invariant_of-self-in_err-receive : goal.invariant_of-self-in_err-receive
invariant_of-self-in_err-receive c = grind (arith, common_steps)

pub put_out-requires-2 : goal.put_out-requires-2
put_out-requires-2 c = grind (arith, common_steps)

pub returns-in_err-copy-clause-stays : goal.returns-in_err-copy-clause-stays
returns-in_err-copy-clause-stays c = grind (arith, common_steps)
