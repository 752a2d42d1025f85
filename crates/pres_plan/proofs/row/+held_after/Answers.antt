use Rattle.std.proofs.Common.{◌≡◌, ◌∷◌, ◌++◌, [], length, length-append, arith, drop, sym, ap, subst, ◌∙◌}
use Rattle.std.specs.Prelude.{option_copied}
use Rattle.pres_tree.specs.Rows.{rows_in, value_at}
use Rattle.pres_tree.proofs.After.{value_alone}
use Rattle.pres_write.specs.Basics.{applied}
use Rattle.pres_write.proofs.Held.{held_is, rows_of_option}
use Rattle.pres_plan.proofs.HeldAfter.{NoneBelow, held_above, held_elsewhere, no_writes, none_before}
use Rattle.pres_plan.proofs.row.+held_after.Goals as goal

pub held_after-requires : goal.held_after-requires
held_after-requires t c =
    let is : c.args.before.now ≡ c.in-Some.earlier.now ++ c.in-Some.last.now ∷ [] = c.in-Some.ensures.cases.0 in
    (omega (arith, ap length is, length-append c.in-Some.earlier.now (c.in-Some.last.now ∷ [])), (none_before c.args.path.now c.in-Some.earlier.now c.in-Some.last.now (subst (NoneBelow c.args.path.now) is c.requires)).0)

pub returns-in_default : goal.returns-in_default
returns-in_default t c =
    let p = c.args.path.now in
    let tree = c.args.tree.now in
    let v = value_at p tree in
    ap rows_in (held_is (λ r. r.now) c.at.result v c.at.ensures) ∙ rows_of_option v ∙ sym (value_alone p tree c.is_empty.ensures.value.in_order)
    ∙ ap (λ b. value_at p (applied tree b)) (sym (no_writes c.args.before.now c.in_default.ensures.cases))

pub is_above-requires : goal.is_above-requires
is_above-requires t c =
    (none_before c.args.path.now c.in-Some.earlier.now c.in-Some.last.now (subst (NoneBelow c.args.path.now) c.in-Some.ensures.cases.0 c.requires)).1

pub returns-then-not-is_above : goal.returns-then-not-is_above
returns-then-not-is_above t c =
    let p = c.args.path.now in
    let tree = c.args.tree.now in
    let is : c.args.before.now ≡ c.in-Some.earlier.now ++ c.in-Some.last.now ∷ [] = c.in-Some.ensures.cases.0 in
    let none = none_before p c.in-Some.earlier.now c.in-Some.last.now (subst (NoneBelow p) is c.requires) in
    let above = sym c.is_above.ensures ∙ c.if-not-is_above.true in
    c.held_after.ensures
    ∙ sym (held_elsewhere tree p c.in-Some.earlier.now c.in-Some.last.now none.1 above)
    ∙ ap (λ b. value_at p (applied tree b)) (sym is)

pub returns-in_err-value : goal.returns-in_err-value
returns-in_err-value t c =
    let p = c.args.path.now in
    let tree = c.args.tree.now in
    let is : c.args.before.now ≡ c.in-Some.earlier.now ++ c.in-Some.last.now ∷ [] = c.in-Some.ensures.cases.0 in
    let above = sym c.is_above.ensures ∙ c.if-not-is_above.false in
    ap (λ o. rows_in (option_copied o)) c.from_residual.ensures
    ∙ sym (held_above tree p c.in-Some.earlier.now c.in-Some.last.now [] (sym (ap rows_in c.in_err-value.ensures.value)) above tt)
    ∙ ap (λ b. value_at p (applied tree b)) (sym is)

pub returns : goal.returns
returns t c =
    let p = c.args.path.now in
    let tree = c.args.tree.now in
    let is : c.args.before.now ≡ c.in-Some.earlier.now ++ c.in-Some.last.now ∷ [] = c.in-Some.ensures.cases.0 in
    let above = sym c.is_above.ensures ∙ c.if-not-is_above.false in
    let v = c.in_ok-value.value.now in
    let w = value_at (drop c.len.result p) v in
    ap rows_in (held_is (λ r. r.now) c.at_below.result w c.at_below.ensures) ∙ rows_of_option w
    ∙ ap (λ n. value_at (drop n p) v) (c.len.ensures.len ∙ ap length c.path.ensures.path)
    ∙ sym (held_above tree p c.in-Some.earlier.now c.in-Some.last.now v (sym (ap rows_in c.in_ok-value.ensures.value)) above c.is_empty-2.ensures.value.in_order)
    ∙ ap (λ b. value_at p (applied tree b)) (sym is)
