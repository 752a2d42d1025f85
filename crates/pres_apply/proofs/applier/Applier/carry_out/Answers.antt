use Rattle.pres_apply.proofs.Steps.{carried}
use Rattle.pres_apply.proofs.applier.Applier.carry_out.Goals as goal
use Rattle.std.proofs.Common.{arith}
use Rattle.std.proofs.lemmas.Grind.{common_steps}

pub returns-clause-state : goal.returns-clause-state
returns-clause-state c =
    let a = c.self.view_is in
    let b = c.in-Ok.ensures.ok in
    carried c.self.inside.plain c.apply_owned.new.self c.self.inside.refused c.args.self.now c.args.op c.args.now a b

pub returns-clause-text : goal.returns-clause-text
returns-clause-text c = grind (arith, common_steps)
