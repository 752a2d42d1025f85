use Rattle.std.proofs.Common.{◌≡◌, ◌<◌, ◌++◌, ◌∷◌, [], List, length, drop, sym, ◌∙◌, ap, arith}
use Rattle.std.specs.Map.{values_of}
use Rattle.std.specs.Vec.Iter.{into_iter_items}
use Rattle.std.proofs.lemmas.List.{length-map}
use Rattle.pres_write.specs.declared.basic.Basic.{Basic}
use Rattle.pres_plan.specs.Plans.{due}
use Rattle.pres_plan.proofs.Due.{length-due, next_left, numbered_more}
use Rattle.pres_plan.proofs.plan.Plan.due.Goals as goal

pub loop-row-init : goal.loop-row-init
loop-row-init c =
    let rows = c.as_slice-row-items.result.now in
    let all = due c.args.tree.now c.args.moment (values_of rows) in
    let writes : c.into_vec-writes.result.items ≡ all =
    c.into_vec-writes.ensures ∙ c.in_ok-due_writes.ensures.writes
    ∙ ap (due c.args.tree.now c.args.moment) (sym (ap values_of c.as_slice-row-items.ensures ∙ c.self.view_is)) in (
      c.into_iter-rest.ensures.rest ∙ writes,
      omega (arith, c.into_iter-rest.ensures.len, c.into_vec-writes.result.ok.0, ap length writes, length-due c.args.tree.now [] c.args.moment (values_of rows), length-map rows (λ e. e.1)),
      c.in_ok-made.ensures.items,
    )

pub loop-row-preserved : goal.loop-row-preserved
loop-row-preserved c =
    let rows = c.as_slice-row-items.result.now in
    let i = c.loop-row.row-index in
    let row = c.loop-row-item.result in
    let all = due c.args.tree.now c.args.moment (values_of rows) in
    let b = c.in-Some.basic in
    let left = into_iter_items c.next.new.self in
    let next : drop i all ≡ b ∷ left = sym c.loop-row.invariant.0 ∙ c.in-Some.ensures.cases.0 in
    let within : i < length all = omega (arith, c.loop-row-test.true, length-due c.args.tree.now [] c.args.moment (values_of rows), length-map rows (λ e. e.1)) in (
      sym (next_left i all b left within next),
      omega (arith, c.in-Some.ensures.cases.1, c.loop-row.invariant.1),
      c.in_ok-push.ensures.items ∙ ap (λ l. l ++ record { q = row.1.q; basic = b } ∷ []) c.loop-row.invariant.2
          ∙ sym (numbered_more rows i row all b left c.loop-row-item.is c.loop-row-test.true next),
    )
