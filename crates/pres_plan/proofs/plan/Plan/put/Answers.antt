use Rattle.std.proofs.Common.{refl, ◌≡◌, ◌≤◌, [], ◌∷◌, ◌++◌, List, length, map, ap, sym, ◌∙◌, subst}
use Rattle.std.specs.Prelude.{nat_le}
use Rattle.std.specs.Map.{values_of}
use Rattle.pres_tree.specs.Paths.{overlap}
use Rattle.pres_plan.specs.declared.row.PlanRow.{PlanRow}
use Rattle.pres_plan.specs.Plans.{path_of, plan_of, puts}
use Rattle.pres_plan.proofs.Orders.{put_in_order}
use Rattle.pres_plan.proofs.Steps.{is_plan, is_same_plan, puts_done, is_full, few_rows, not_refused, out_of_memory}
use Rattle.pres_plan.proofs.plan.Plan.put.Goals as goal

pub returns-then-not-has_room-clause-full : goal.returns-then-not-has_room-clause-full
returns-then-not-has_room-clause-full c =
    is_full c.args.self.now (λ q. puts q (c.args.placement ∷ [])) c.has_room.result
    (λ q. c.has_room.ensures q ∙ ap (λ ps. nat_le (length (plan_of (c.args.self.now ++ puts q ps))) 256) c.from_ref.ensures.value)
    c.if-not-has_room.true c.args.q

pub returns-in_err-one-clause-full : goal.returns-in_err-one-clause-full
returns-in_err-one-clause-full c =
    out_of_memory c.from_residual.result (length (plan_of (c.args.self.now ++ puts c.args.q (c.args.placement ∷ []))))
    (few_rows c.args.self.now (λ q. puts q (c.args.placement ∷ [])) c.has_room.result
    (λ q. c.has_room.ensures q ∙ ap (λ ps. nat_le (length (plan_of (c.args.self.now ++ puts q ps))) 256) c.from_ref.ensures.value)
    c.if-not-has_room.false c.args.q)
    c.from_residual.ensures

pub returns-in_err-replace-clause-full : goal.returns-in_err-replace-clause-full
returns-in_err-replace-clause-full c =
    out_of_memory c.from_residual-in_err-replace.result (length (plan_of (c.args.self.now ++ puts c.args.q (c.args.placement ∷ []))))
    (few_rows c.args.self.now (λ q. puts q (c.args.placement ∷ [])) c.has_room.result
    (λ q. c.has_room.ensures q ∙ ap (λ ps. nat_le (length (plan_of (c.args.self.now ++ puts q ps))) 256) c.from_ref.ensures.value)
    c.if-not-has_room.false c.args.q)
    c.from_residual-in_err-replace.ensures

done : (c : goal.In_ok-replace) → (values_of c.replace.new.self.rows) ≡ plan_of (c.args.self.now ++ puts c.args.q (c.args.placement ∷ []))
done c =
    puts_done (values_of c.self.inside.standing.rows) c.into_vec-rows.result.items (values_of c.replace.new.self.rows) c.args.q (c.args.placement ∷ []) c.self.invariant.plan refl (c.into_vec-rows.ensures ∙ c.in_ok-one.ensures) c.in_ok-replace.ensures.ok
    ∙ ap (λ l. plan_of (l ++ puts c.args.q (c.args.placement ∷ []))) c.self.view_is

few : (c : goal.In_ok-replace) → length (plan_of (c.args.self.now ++ puts c.args.q (c.args.placement ∷ []))) ≤ 256
few c =
    few_rows c.args.self.now (λ q. puts q (c.args.placement ∷ [])) c.has_room.result
    (λ q. c.has_room.ensures q ∙ ap (λ ps. nat_le (length (plan_of (c.args.self.now ++ puts q ps))) 256) c.from_ref.ensures.value)
    c.if-not-has_room.false c.args.q

pub invariant_of-self-2 : goal.invariant_of-self-2
invariant_of-self-2 c = record {
  plan =
      is_plan (c.args.self.now ++ puts c.args.q (c.args.placement ∷ [])) (values_of c.replace.new.self.rows) (done c) (subst (λ (l : List PlanRow). length l ≤ 256) (sym (done c)) (few c))
      (put_in_order c.args.self.now c.args.q c.args.placement (is_same_plan c.self.view_is c.self.invariant.plan).in_order c.requires.last);
  tells = c.in_ok-replace.ensures.tells;
  tops = c.in_ok-replace.ensures.tops;
}

pub returns-clause-ok : goal.returns-clause-ok
returns-clause-ok c = done c

pub returns-clause-full : goal.returns-clause-full
returns-clause-full c = not_refused (length (plan_of (c.args.self.now ++ puts c.args.q (c.args.placement ∷ [])))) (few c)

pub invariant_of-self : goal.invariant_of-self
invariant_of-self c = record {
  plan = is_same_plan (sym c.in_err-replace.ensures.err) c.self.invariant.plan;
  tells = c.in_err-replace.ensures.tells;
  tops = c.in_err-replace.ensures.tops;
}

pub replace-requires-clause-apart : goal.replace-requires-clause-apart
replace-requires-clause-apart c = ap (λ rows. overlap (map (λ row. path_of row.action) rows)) (c.into_vec-rows.ensures ∙ c.in_ok-one.ensures)
