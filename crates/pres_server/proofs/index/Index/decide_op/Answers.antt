use Rattle.std.proofs.Common.{◌∙◌, ap, cond, is_some}
use Rattle.pres_retry.specs.Verdicts.{verdict}
use Rattle.pres_server.specs.Turns.{Decision, op_by, quiet}
use Rattle.pres_server.specs.InternalIndex.{part_at}
use Rattle.pres_server.proofs.Checks.{decided_as}
use Rattle.pres_server.proofs.index.Index.decide_op.Goals as goal

pub returns-in-Ok-Some : goal.returns-in-Ok-Some
returns-in-Ok-Some c =
    let accepted : Decision = op_by (verdict c.args.n (part_at c.args.self.now c.args.session.client).rows) c.args.self.now.tree c.args.now.moment c.args.session c.args.q c.args.n c.args.op in
    decided_as _ _ _ _ accepted _ (c.in-Ok-Some.ensures.decides accepted ∙ ap (λ b. cond b accepted quiet) (ap is_some c.in-Ok-Some.field-0-is)) (c.effect_of.ensures _ _ c.op_entries.ensures)
