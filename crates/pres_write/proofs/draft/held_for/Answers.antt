use Rattle.std.proofs.Common.{sym, ap, ◌∙◌}
use Rattle.pres_tree.specs.Rows.{rows_in, value_at}
use Rattle.pres_write.specs.Settling.{settled}
use Rattle.pres_write.proofs.Held.{held_is, rows_of_option}
use Rattle.pres_write.proofs.draft.held_for.Goals as goal

pub returns-then-looks : goal.returns-then-looks
returns-then-looks c =
    let v = value_at c.args.path.now c.args.tree.now in
    ap (λ held. settled held c.args.moment c.args.draft.now) (ap rows_in (held_is (λ r. r.now) c.at.result v c.at.ensures) ∙ rows_of_option v)

pub returns-else-looks : goal.returns-else-looks
returns-else-looks c = sym (c.looks.ensures c.if-looks.false (value_at c.args.path.now c.args.tree.now))
