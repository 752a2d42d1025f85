use Rattle.std.proofs.Common.{◌≡◌, ◌++◌, eqb, sym, ◌∙◌, ap, subst, not, map, filter}
use Rattle.std.specs.List.{list_any}
use Rattle.std.specs.List.Sorted.{IsStrictlySortedBy}
use Rattle.std.specs.Map.{keys_of, values_of}
use Rattle.std.specs.Ordering.{nat_cmp}
use Rattle.pres_tree.specs.Paths.{overlap}
use Rattle.pres_plan.specs.declared.row.PlanRow.{PlanRow}
use Rattle.pres_plan.specs.Plans.{path_of, is_left}
use Rattle.pres_plan.specs.Standing.{Entries, numbers_below}
use Rattle.pres_plan.proofs.Arrivals.{map_twice}
use Rattle.pres_plan.proofs.Numbers.{one_each}
use Rattle.pres_plan.proofs.Tops.{tops_after}
use Rattle.pres_plan.proofs.Covered.{after_covered}
use Rattle.pres_plan.proofs.standing.Standing.replace.Goals as goal

pub add_all-requires-clause-apart : goal.add_all-requires-clause-apart
add_all-requires-clause-apart c =
    ap overlap (sym (map_twice (λ a. a.row) (λ (row : PlanRow). path_of row.action) c.in_ok-arrivals.arrivals.items) ∙ ap (map (λ row. path_of row.action)) c.in_ok-arrivals.ensures.rows) ∙ c.requires.apart

left : (c : goal.After-drop-covered-in-Ok) → values_of c.remove_all.new.self.rows ≡ filter (is_left c.args.rows.items) (values_of c.args.self.now.rows) ++ c.args.rows.items
left c =
    let old = c.args.self.now.rows in
    let places = c.args.self.now.places in
    let rows = c.args.rows.items in
    let numbers = c.deref-in-Ok.result.now in
    let standing = c.requires.standing in
    let more = c.in-Ok.ensures.added in
    ap values_of c.remove_all.ensures.rows
    ∙ ap (λ (es : Entries). values_of (filter (λ e. not (list_any (λ n. eqb n e.0) numbers)) es)) more.1
    ∙ after_covered rows numbers old more.0 places (subst (λ (es : Entries). IsStrictlySortedBy nat_cmp (keys_of es)) more.1 c.remove_all.ensures.ordered) c.in_ok-covered.ensures.ordered standing.tells (λ q. one_each q old standing.plan)
    (λ n.
    ap (list_any (λ m. eqb m n)) c.deref-in-Ok.ensures.value
    ∙ c.in_ok-covered.ensures.numbers n
    ∙ ap (list_any (λ row. list_any (λ m. eqb m n) (numbers_below (path_of row.action) places))) c.deref.ensures.value)
    ∙ ap (λ l. filter (is_left rows) (values_of old) ++ l) (more.2 ∙ c.in_ok-arrivals.ensures.rows)

pub returns-in-Ok-clause-ok : goal.returns-in-Ok-clause-ok
returns-in-Ok-clause-ok c = left c

pub returns-in-Ok-clause-tops : goal.returns-in-Ok-clause-tops
returns-in-Ok-clause-tops c =
    let old = values_of c.args.self.now.rows in
    tops_after old c.args.rows.items c.remove_all.new.self.places c.remove_all.new.self.rows (left c) c.requires.apart c.remove_all.ensures.tells
    (c.remove_all.ensures.tops old (c.in-Ok.ensures.tops old c.requires.standing.tops c.in_ok-arrivals.ensures.tops))
