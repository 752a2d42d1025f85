use Rattle.std.proofs.Common.{refl, ◌≡◌, true, false, length, take, length-take, sym, ◌∙◌, ap, subst, arith, eqb, Option, is_some, unwrap_or}
use Rattle.std.specs.List.{starts_with}
use Rattle.std.specs.Map.{values_of}
use Rattle.std.specs.Cmp.Lexicographic.{pointwise}
use Rattle.pres_plan.specs.Standing.{above, IsTop}
use Rattle.pres_plan.proofs.Tops.{top_is, starts-prefix, top_found, none_found, none_before, own_top}
use Rattle.pres_plan.proofs.standing.Standing.top_above.Goals.{else-spot-len-via-then-spot-len+else-starts_with, else-spot-len-via-else-spot-len}
use Rattle.pres_plan.proofs.standing.Standing.top_above.Goals as goal

none : (c : goal.After-from_residual) → above c.args.path.now (values_of c.args.self.now.rows) ≡ false
none c =
    none_before c.args.self.now.rows c.args.self.now.places c.args.path.now c.requires.tells
    (c.in_err-place.ensures.none refl)

pub returns-in_err-place-clause-above : goal.returns-in_err-place-clause-above
returns-in_err-place-clause-above c = ap is_some c.from_residual.ensures ∙ sym (none c)

pub returns-in_err-place-clause-top : goal.returns-in_err-place-clause-top
returns-in_err-place-clause-top c =
    subst (λ (r : Option _). IsTop (values_of c.args.self.now.rows) c.args.path.now (unwrap_or r (length c.args.path.now))) (sym c.from_residual.ensures)
    (own_top c.args.path.now (values_of c.args.self.now.rows) (none c))

pub slice_bounds-start-end : goal.slice_bounds-start-end
slice_bounds-start-end c =
    let before = c.in_ok-place.ensures.some in
    let short = (top_is (values_of c.args.self.now.rows) c.args.self.now.places c.in_ok-place.field-0.now.0 c.in_ok-place.field-0.now.1 before.found c.requires.tops).short in
    omega (arith, short, length-take c.in_ok-place.field-0.now.1.top c.keys.result.now, ap length c.keys.ensures.keys)

found : (c : goal.Then-starts_with) → (true ≡ above c.args.path.now (values_of c.args.self.now.rows)) × IsTop (values_of c.args.self.now.rows) c.args.path.now c.in_ok-place.field-0.now.1.top
found c =
    let before = c.in_ok-place.ensures.some in
    top_found c.args.self.now.rows c.args.self.now.places c.args.path.now c.in_ok-place.field-0.now.0 c.in_ok-place.field-0.now.1 before c.requires.tells c.requires.tops
    (omega (arith, c.if-spot-len.true, c.len.ensures.len))
    (sym (starts-prefix (take c.in_ok-place.field-0.now.1.top c.in_ok-place.field-0.now.0) c.args.path.now)
    ∙ (λ i. starts_with (pointwise eqb) (sym c.keys-then-spot-len.ensures.keys i) (take c.in_ok-place.field-0.now.1.top (sym c.keys.ensures.keys i)))
    ∙ sym c.if-starts_with.ensures.value)

pub returns-then-starts_with-clause-above : goal.returns-then-starts_with-clause-above
returns-then-starts_with-clause-above c = (found c).0

pub returns-then-starts_with-clause-top : goal.returns-then-starts_with-clause-top
returns-then-starts_with-clause-top c = (found c).1

lower : (c : goal.Joined-else-spot-len) → above c.args.path.now (values_of c.args.self.now.rows) ≡ false
lower c =
    let before = c.in_ok-place.ensures.some in
    none_found c.args.self.now.rows c.args.self.now.places c.args.path.now c.in_ok-place.field-0.now.0 c.in_ok-place.field-0.now.1 before c.requires.tells c.requires.tops
    (elim c.else-spot-len.branch [
      | else-spot-len-via-then-spot-len+else-starts_with w ↦ λ low up.
          sym up ∙ sym (starts-prefix (take c.in_ok-place.field-0.now.1.top c.in_ok-place.field-0.now.0) c.args.path.now)
          ∙ (λ i. starts_with (pointwise eqb) (sym w.keys-then-spot-len.ensures.keys i) (take c.in_ok-place.field-0.now.1.top (sym c.keys.ensures.keys i)))
          ∙ sym w.if-starts_with.ensures.value
      | else-spot-len-via-else-spot-len w ↦ λ low up. absurd (omega (arith, low, w.if-spot-len.false, c.len.ensures.len))
    ])

pub returns-else-spot-len-clause-above : goal.returns-else-spot-len-clause-above
returns-else-spot-len-clause-above c = sym (lower c)

pub returns-else-spot-len-clause-top : goal.returns-else-spot-len-clause-top
returns-else-spot-len-clause-top c = own_top c.args.path.now (values_of c.args.self.now.rows) (lower c)
