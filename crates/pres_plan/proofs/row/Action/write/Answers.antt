use Rattle.std.proofs.Common.{sym, ap, ◌∙◌, subst}
use Rattle.pres_tree.specs.Paths.{Path}
use Rattle.pres_tree.specs.Rows.{Rows, Fits, value_at}
use Rattle.pres_tree.specs.declared.scalar.Scalar.{Scalar}
use Rattle.pres_write.specs.Basics.{applied, basic}
use Rattle.pres_write.specs.Settling.{settled, settled_write}
use Rattle.pres_write.proofs.Fitting.{fits_settled}
use Rattle.pres_plan.specs.Plans.{due_write}
use Rattle.pres_plan.proofs.row.Action.write.Goals as goal

pub fitting-requires : goal.fitting-requires
fitting-requires c =
    let path = c.in_ok-path-in-Put.ensures ∙ c.path.ensures.path in
    let draft = c.in-Put.placement.1 in
    let moment = c.args.moment in
    let held = value_at c.in_ok-path-in-Put.path (applied c.args.tree.now c.args.before.now) in
    let value = c.in_ok-value-in-Put.ensures ∙ c.held_for-held.ensures ∙ ap (settled held moment) c.draft-draft.ensures in
    subst (λ (p : Path). Fits p c.in_ok-value-in-Put.value) (sym path)
    (subst (λ (v : Rows Scalar). Fits c.in-Put.placement.0 v) (sym value) (fits_settled c.in-Put.placement.0 draft held moment c.path.ensures.fits))

pub returns-in_ok-value-in-Put : goal.returns-in_ok-value-in-Put
returns-in_ok-value-in-Put c =
    let path = c.in_ok-path-in-Put.ensures ∙ c.path.ensures.path in
    let moment = c.args.moment in
    let before = applied c.args.tree.now c.args.before.now in
    let held = value_at c.in_ok-path-in-Put.path before in
    let value = c.in_ok-value-in-Put.ensures ∙ c.held_for-held.ensures ∙ ap (settled held moment) c.draft-draft.ensures in
    c.fitting.ensures
    ∙ ap (basic c.in_ok-path-in-Put.path) value
    ∙ ap (λ p. settled_write before moment (p, c.in-Put.placement.1)) path
    ∙ ap (due_write c.args.tree.now c.args.before.now moment) (sym c.in-Put.is)
