use Rattle.std.proofs.Common.{◌≡◌, ◌∙◌, sym, ap, subst, Bool, true, false, Option, None}
use Rattle.std.specs.List.{list_any}
use Rattle.pres_tree.specs.declared.scalar.Scalar.{Scalar}
use Rattle.pres_tree.specs.declared.scalar.Scalar.TheVariants as scalar
use Rattle.pres_tree.specs.Paths.{Path, IsPath}
use Rattle.pres_tree.specs.Rows.{Rows}
use Rattle.pres_server.specs.InternalGrowth.{puts_by, StandsIn}
use Rattle.pres_server.proofs.Stands.{comes_last, holds_place, puts_value}
use Rattle.pres_server.proofs.grow.stand_in.Goals as goal

pub returns-in-Some : goal.returns-in-Some
returns-in-Some c = puts_value c.args.write.now c.args.later.now c.in-Some.value.now c.in_ok-copy.field-0 c.in-Some.ensures.value c.in-Some.ensures.one_form c.path-path.ensures.fits c.in_ok-copy.ensures

pub returns-then-any_puts_by : goal.returns-then-any_puts_by
returns-then-any_puts_by c =
    let w = c.args.write.now in
    let none : w.value ≡ None = sym c.in_default.ensures.value in
    let some : list_any (puts_by w.path) c.args.later.now ≡ true = ap (λ (p : Path). list_any (puts_by p) c.args.later.now) (sym c.path-path.ensures.path) ∙ sym c.any_puts_by.ensures ∙ c.if-any_puts_by.true in
    subst (StandsIn w c.args.later.now) (sym c.scalar.ensures) (holds_place w c.args.later.now (scalar.Bool true) none (subst IsPath c.path-path.ensures.path c.keys.ensures.path) some)

pub returns : goal.returns
returns c =
    let w = c.args.write.now in
    let none : w.value ≡ None = sym c.in_default.ensures.value in
    comes_last w c.args.later.now none (ap (λ (p : Path). list_any (puts_by p) c.args.later.now) (sym c.path-path.ensures.path) ∙ sym c.any_puts_by.ensures ∙ c.if-any_puts_by.false)
