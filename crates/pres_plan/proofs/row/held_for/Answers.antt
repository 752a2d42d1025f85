use Rattle.std.proofs.Common.{sym, ap, ◌∙◌}
use Rattle.pres_tree.specs.Rows.{value_at}
use Rattle.pres_write.specs.Basics.{applied}
use Rattle.pres_write.specs.Settling.{settled}
use Rattle.pres_plan.proofs.row.held_for.Goals as goal

pub returns-then-looks : goal.returns-then-looks
returns-then-looks c = ap (λ v. settled v c.args.moment c.args.draft.now) c.held_after.ensures

pub returns-else-looks : goal.returns-else-looks
returns-else-looks c = sym (c.looks.ensures c.if-looks.false (value_at c.args.path.now (applied c.args.tree.now c.args.before.now)))
