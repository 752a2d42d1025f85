use Rattle.std.proofs.Common.{rules, arith, ◌≡◌, List, [], sym, ap, ◌∙◌, subst, length}
use Rattle.std.specs.List.Sorted.{IsStrictlySortedBy}
use Rattle.std.specs.Vec.Iter.{into_iter_items}
use Rattle.pres_fan.specs.Listeners.{listener_cmp, by_session, touched}
use Rattle.pres_fan.proofs.Members.{nothing_left, found_touched}
use Rattle.pres_fan.proofs.Rows.{Row, Made, made_none, made_more, made_all}
use Rattle.pres_fan.proofs.listeners.Listeners.touched.Goals as goal

pub loop-listener-init : goal.loop-listener-init
loop-listener-init c =
    let whole = into_iter_items c.into_iter-listener-iterator.result in
    (subst (λ (rows : List Row). Made whole rows whole) (sym c.new-rows.ensures.items) (made_none whole), search rules)

pub loop-listener-preserved : goal.loop-listener-preserved
loop-listener-preserved c =
    let whole = into_iter_items c.into_iter-listener-iterator.result in
    let gives = c.into_iter-listener-iterator.ensures.into_iter_gives in
    let steps = c.in-Some.ensures.steps in
    let short = ap length steps.0 in
    let long = steps.1 in
    let was = c.loop-listener.invariant.1 in (
      made_more whole c.loop-listener.rows.items c.add.new.rows.items c.in-Some.listener (into_iter_items c.next.new.self)
          (subst (IsStrictlySortedBy listener_cmp) (sym gives.0) c.in_ok-listener-items.ensures.ordered) c.in_ok-add.ensures
          (subst (Made whole c.loop-listener.rows.items) steps.0 c.loop-listener.invariant.0),
      omega (arith, was, long, short),
    )

pub returns-clause-rows : goal.returns-clause-rows
returns-clause-rows c =
    let whole = into_iter_items c.into_iter-listener-iterator.result in
    let found = c.in_ok-listener-items.ensures in
    let none : into_iter_items c.loop-listener.listener-iterator ≡ [] = nothing_left (into_iter_items c.loop-listener.listener-iterator) (sym c.loop-listener.invariant.1 ∙ c.in-None.ensures.steps.0) in
    made_all whole c.loop-listener.rows.items (subst (Made whole c.loop-listener.rows.items) none c.loop-listener.invariant.0)
    ∙ ap by_session
    (c.into_iter-listener-iterator.ensures.into_iter_gives.0
    ∙ found_touched c.args.writes.now c.self.inside.paths c.in_ok-listener-items.listener-items.items c.self.inside.root c.self.invariant.0 c.self.invariant.1 found.ordered found.all found.only)
    ∙ ap (touched c.args.writes.now) c.self.view_is
