use Rattle.std.proofs.Common.{not, ap, ◌∙◌}
use Rattle.pres_tree.specs.Paths.{is_prefix}
use Rattle.pres_plan.specs.Plans.{path_of}
use Rattle.pres_plan.proofs.Steps.{is_same_plan, room_left, no_room_left}
use Rattle.pres_plan.proofs.Covered.{left_count, count_fits}
use Rattle.pres_plan.proofs.plan.Plan.may_cancel.Goals as goal

pub overflow_sub-left : goal.overflow_sub-left
overflow_sub-left c =
    count_fits (λ row. is_prefix c.args.path.now (path_of row.action)) c.self.inside.standing.rows c.len-rows.result c.count_below-below.result
    c.len-rows.ensures.len c.count_below-below.ensures

pub returns-then-left-lt-MOST_ROWS : goal.returns-then-left-lt-MOST_ROWS
returns-then-left-lt-MOST_ROWS c =
    room_left c.args.self.now c.args.path.now _ (is_same_plan c.self.view_is c.self.invariant.plan)
    (left_count (λ row. is_prefix c.args.path.now (path_of row.action)) c.self.inside.standing.rows c.args.self.now c.len-rows.result c.count_below-below.result c.self.view_is c.len-rows.ensures.len c.count_below-below.ensures)
    c.if-left-lt-MOST_ROWS.true

pub returns-else-left-lt-MOST_ROWS : goal.returns-else-left-lt-MOST_ROWS
returns-else-left-lt-MOST_ROWS c = λ q.
    ap not c.has_put_above.ensures
    ∙ no_room_left c.args.self.now c.args.path.now _ (is_same_plan c.self.view_is c.self.invariant.plan)
    (left_count (λ row. is_prefix c.args.path.now (path_of row.action)) c.self.inside.standing.rows c.args.self.now c.len-rows.result c.count_below-below.result c.self.view_is c.len-rows.ensures.len c.count_below-below.ensures)
    c.if-left-lt-MOST_ROWS.false q
