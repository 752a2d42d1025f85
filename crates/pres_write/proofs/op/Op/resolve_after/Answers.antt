use Rattle.std.proofs.Common.{◌≡◌, ◌∷◌, [], ap, subst, ◌∙◌}
use Rattle.std.specs.Prelude.{IfOk}
use Rattle.pres_tree.specs.Rows.{value_at}
use Rattle.pres_tree.specs.Writes.{write, after}
use Rattle.pres_write.specs.Outcomes.{named_path, resolved}
use Rattle.pres_write.proofs.There.{resolved_alone}
use Rattle.pres_write.proofs.op.Op.resolve_after.Goals as goal

pub set-requires : goal.set-requires
set-requires c = c.in_ok-held.ensures.fits

pub returns-clause-outcome : goal.returns-clause-outcome
returns-clause-outcome c =
    let op = c.args.self.now in
    let tree = c.args.tree.now in
    let p = named_path op in
    let start = c.set.new.self in
    let is : start ≡ after [] (write p (value_at p tree) ∷ []) =
    c.in_ok-set.ensures.ok ∙ (λ i. after (c.empty-after.ensures i) (write (c.path-path.ensures i) (c.in_ok-held.ensures.value i) ∷ []))
    ∙ ap (λ q. after [] (write p (value_at q tree) ∷ [])) c.path-path.ensures in
    subst (λ o. IfOk c.resolve.result (λ outcome. outcome ≡ o))
    (ap (λ t. resolved t c.args.moment op) c.in_ok-apply.ensures.ok ∙ resolved_alone tree start c.args.before.now c.args.moment op c.is_empty.ensures.value.in_order is)
    c.resolve.ensures.outcome
