use Rattle.std.proofs.Common.{◌≡◌, ◌≤◌, ◌++◌, List, length, map, ap, sym, ◌∙◌, subst}
use Rattle.std.specs.List.{list_any}
use Rattle.std.specs.Map.{values_of}
use Rattle.pres_tree.specs.Paths.{overlap}
use Rattle.pres_plan.specs.declared.row.PlanRow.{PlanRow}
use Rattle.pres_plan.specs.Plans.{path_of, puts_above, plan_of, cancels}
use Rattle.pres_plan.proofs.Orders.{cancel_in_order}
use Rattle.pres_plan.proofs.Steps.{is_plan, is_same_plan, keep_done, clear_done, clear_few, few_rows, not_refused, out_of_memory}
use Rattle.pres_plan.proofs.plan.Plan.cancel.Goals as goal

cleared : (c : goal.In_ok-take_back) → (values_of c.take_back.new.self.rows ≡ plan_of (c.args.self.now ++ cancels c.args.q c.args.path.now)) × (length (values_of c.take_back.new.self.rows) ≤ 256)
cleared c =
    let step =
    clear_done (values_of c.self.inside.standing.rows) (values_of c.take_back.new.self.rows) c.args.q c.args.path.now c.self.invariant.plan
    (sym c.if-not-has_put_above.true ∙ c.has_put_above.ensures ∙ ap (list_any (puts_above c.args.path.now)) (sym c.self.view_is))
    c.in_ok-take_back.ensures.ok in
    (step.0 ∙ ap (λ l. plan_of (l ++ cancels c.args.q c.args.path.now)) c.self.view_is, step.1)

pub returns-in_err-take_back-clause-full : goal.returns-in_err-take_back-clause-full
returns-in_err-take_back-clause-full c =
    out_of_memory c.from_residual.result (length (plan_of (c.args.self.now ++ cancels c.args.q c.args.path.now)))
    (clear_few c.args.self.now c.args.q c.args.path.now (is_same_plan c.self.view_is c.self.invariant.plan) (sym c.if-not-has_put_above.true ∙ c.has_put_above.ensures))
    c.from_residual.ensures

pub invariant_of-self : goal.invariant_of-self
invariant_of-self c = record {
  plan = is_same_plan (sym c.in_err-take_back.ensures.err) c.self.invariant.plan;
  tells = c.in_err-take_back.ensures.tells;
  tops = c.in_err-take_back.ensures.tops;
}

pub invariant_of-self-then-not-has_put_above : goal.invariant_of-self-then-not-has_put_above
invariant_of-self-then-not-has_put_above c = record {
  plan =
      is_plan (c.args.self.now ++ cancels c.args.q c.args.path.now) (values_of c.take_back.new.self.rows) (cleared c).0 (cleared c).1
      (cancel_in_order c.args.self.now c.args.q c.args.path.now (is_same_plan c.self.view_is c.self.invariant.plan).in_order c.requires.last);
  tells = c.in_ok-take_back.ensures.tells;
  tops = c.in_ok-take_back.ensures.tops;
}

pub returns-then-not-has_put_above-clause-ok : goal.returns-then-not-has_put_above-clause-ok
returns-then-not-has_put_above-clause-ok c = (cleared c).0

pub returns-then-not-has_put_above-clause-full : goal.returns-then-not-has_put_above-clause-full
returns-then-not-has_put_above-clause-full c = not_refused (length (plan_of (c.args.self.now ++ cancels c.args.q c.args.path.now))) (subst (λ (l : List PlanRow). length l ≤ 256) (cleared c).0 (cleared c).1)

done : (c : goal.In_ok-replace) → values_of c.replace.new.self.rows ≡ plan_of (c.args.self.now ++ cancels c.args.q c.args.path.now)
done c =
    keep_done (values_of c.self.inside.standing.rows) c.into_vec-rows.result.items (values_of c.replace.new.self.rows) c.args.q c.args.path.now c.self.invariant.plan
    (sym c.if-not-has_put_above.false ∙ c.has_put_above.ensures ∙ ap (list_any (puts_above c.args.path.now)) (sym c.self.view_is))
    (c.into_vec-rows.ensures ∙ c.in_ok-one.ensures ∙ ap (cancels c.args.q) c.in_ok-copy.ensures)
    c.in_ok-replace.ensures.ok
    ∙ ap (λ l. plan_of (l ++ cancels c.args.q c.args.path.now)) c.self.view_is

few : (c : goal.In_ok-replace) → length (plan_of (c.args.self.now ++ cancels c.args.q c.args.path.now)) ≤ 256
few c = few_rows c.args.self.now (λ q. cancels q c.args.path.now) c.may_cancel.result c.may_cancel.ensures c.if-not-may_cancel.false c.args.q

pub replace-requires-clause-apart : goal.replace-requires-clause-apart
replace-requires-clause-apart c = ap (λ rows. overlap (map (λ row. path_of row.action) rows)) (c.into_vec-rows.ensures ∙ c.in_ok-one.ensures)

pub invariant_of-self-2 : goal.invariant_of-self-2
invariant_of-self-2 c = record {
  plan =
      is_plan (c.args.self.now ++ cancels c.args.q c.args.path.now) (values_of c.replace.new.self.rows) (done c) (subst (λ (l : List PlanRow). length l ≤ 256) (sym (done c)) (few c))
      (cancel_in_order c.args.self.now c.args.q c.args.path.now (is_same_plan c.self.view_is c.self.invariant.plan).in_order c.requires.last);
  tells = c.in_ok-replace.ensures.tells;
  tops = c.in_ok-replace.ensures.tops;
}

pub returns-in_err-replace-clause-full : goal.returns-in_err-replace-clause-full
returns-in_err-replace-clause-full c =
    out_of_memory c.from_residual-in_err-replace.result (length (plan_of (c.args.self.now ++ cancels c.args.q c.args.path.now)))
    (few_rows c.args.self.now (λ q. cancels q c.args.path.now) c.may_cancel.result c.may_cancel.ensures c.if-not-may_cancel.false c.args.q)
    c.from_residual-in_err-replace.ensures

pub returns-clause-ok : goal.returns-clause-ok
returns-clause-ok c = done c
