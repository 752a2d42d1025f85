use Rattle.std.proofs.Common.{arith}
use Rattle.std.specs.List.{list_any}
use Rattle.std.proofs.lemmas.List.{length-map}
use Rattle.pres_tree.specs.Paths.{is_prefix}
use Rattle.pres_plan.specs.Plans.{path_of}
use Rattle.pres_plan.proofs.Steps.{is_same_plan, room_for_puts}
use Rattle.pres_plan.proofs.Covered.{left_count, count_fits}
use Rattle.pres_plan.proofs.plan.Plan.has_room.Goals as goal

pub overflow_sub-left : goal.overflow_sub-left
overflow_sub-left c =
    count_fits (λ row. list_any (λ p. is_prefix p.0 (path_of row.action)) c.args.placements.now) c.self.inside.standing.rows c.len-rows.result c.count_covered-covered.result
    c.len-rows.ensures.len c.count_covered-covered.ensures

pub overflow_sub-result : goal.overflow_sub-result
overflow_sub-result c =
    let few = c.self.invariant.plan.few in
    omega (arith, few, c.len-rows.ensures.len, length-map c.self.inside.standing.rows (λ e. e.1))

pub returns : goal.returns
returns c =
    room_for_puts c.args.self.now c.args.placements.now _ (is_same_plan c.self.view_is c.self.invariant.plan) c.requires
    (left_count (λ row. list_any (λ p. is_prefix p.0 (path_of row.action)) c.args.placements.now) c.self.inside.standing.rows c.args.self.now c.len-rows.result c.count_covered-covered.result
    c.self.view_is c.len-rows.ensures.len c.count_covered-covered.ensures)
