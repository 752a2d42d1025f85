use Rattle.std.proofs.Common.{rules, subst, sym}
use Rattle.pres_log.specs.declared.entry.Batch.{Batch}
use Rattle.pres_server.specs.SumTurns.{FollowsSum}
use Rattle.pres_server.specs.SumStates.{SumState}
use Rattle.pres_server.proofs.SumServers.{held_by, number_small}
use Rattle.pres_server.proofs.server.Server.wait.Goals as goal
use Rattle.std.proofs.Common.{arith}
use Rattle.std.proofs.lemmas.Grind.{common_steps}

pub new-batch-requires : goal.new-batch-requires
new-batch-requires c = held_by c.args.self.sum c.args.moment c.args.entries c.requires.allowed

pub invariant_of-result : goal.invariant_of-result
invariant_of-result c =
    let b : Batch = record { first = c.in-Some.first; moment = c.args.moment; entries = c.args.entries } in
    let f : FollowsSum c.args.self.sum b = search rules in
    subst (FollowsSum c.args.self.sum) (sym c.new-batch.ensures) f

pub returns : goal.returns
returns c = grind (arith, common_steps)

pub overflow_add-self-inside : goal.overflow_add-self-inside
overflow_add-self-inside c = let small = number_small c.self.inside.batches c.self.inside.moment c.self.inside.number c.self.inside.index c.self.invariant in omega arith

pub unreachable-requires : goal.unreachable-requires
unreachable-requires c = grind (arith, common_steps)
