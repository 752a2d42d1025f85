use Rattle.std.proofs.Common.{◌≡◌, ◌++◌, ◌∙◌, ap, not, filter}
use Rattle.std.specs.Map.{values_of}
use Rattle.pres_tree.specs.Paths.{is_prefix}
use Rattle.pres_plan.specs.Plans.{path_of}
use Rattle.pres_plan.specs.Standing.{numbers_below}
use Rattle.pres_plan.proofs.Numbers.{one_each}
use Rattle.pres_plan.proofs.Tops.{tops_left}
use Rattle.pres_plan.proofs.Covered.{after_taken}
use Rattle.pres_plan.proofs.standing.Standing.take_back.Goals as goal

left : (c : goal.After-drop-covered-2) → values_of c.remove_all.new.self.rows ≡ filter (λ row. not (is_prefix c.args.path.now (path_of row.action))) (values_of c.args.self.now.rows)
left c =
    let old = c.args.self.now.rows in
    let places = c.args.self.now.places in
    let standing = c.requires.standing in
    ap values_of c.remove_all.ensures.rows
    ∙ after_taken c.args.path.now _ old places c.remove_all.ensures.ordered c.in_ok-push_below.ensures.ordered standing.tells (λ q. one_each q old standing.plan)
    (c.deref.ensures.value ∙ c.in_ok-push_below.ensures.numbers ∙ ap (λ l. l ++ numbers_below c.args.path.now places) c.new-covered.ensures.items)

pub returns-clause-ok : goal.returns-clause-ok
returns-clause-ok c = left c

pub returns-clause-tops : goal.returns-clause-tops
returns-clause-tops c =
    tops_left (values_of c.args.self.now.rows) c.args.path.now c.remove_all.new.self.places c.remove_all.new.self.rows (left c)
    c.remove_all.ensures.tells (c.remove_all.ensures.tops (values_of c.args.self.now.rows) c.requires.standing.tops)
