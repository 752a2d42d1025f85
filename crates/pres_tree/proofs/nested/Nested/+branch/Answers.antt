use Rattle.std.proofs.Common.{Some, ap, sym, refl, subst, ◌∙◌, [], ◌∷◌, rules}
use Rattle.pres_tree.specs.Rows.{IsValue, InOrder, is_null}
use Rattle.pres_tree.specs.Writes.{write}
use Rattle.pres_tree.specs.Layer.{Children}
use Rattle.pres_tree.proofs.Found.{HasChildren, Children-insert, write_root, write_not_null, rows_at, set_at, in_order-after}
use Rattle.pres_tree.proofs.Nodes.{no_keys, object_write}
use Rattle.pres_tree.proofs.Values.{null_value, value_after}
use Rattle.pres_tree.proofs.nested.Nested.+branch.Goals as goal

pub invariant_of-result : goal.invariant_of-result
invariant_of-result g t c =
    let here = c.in_ok-insert-in-Some.ensures in
    let keys = c.args.keys.now in
    let rest = c.in-Some.rest.now in
    let value = c.args.value in
    let is = object_write keys c.in_ok-copy-in-Some.field-0 rest value [] c.new-children.result.entries _ (Some c.in_ok-child-in-Some.child)
    (c.in-Some.ensures.cases.0 ∙ ap (λ k. k ∷ rest) (sym c.in_ok-copy-in-Some.ensures))
    (subst (HasChildren []) (sym c.new-children.ensures.empty) (λ l x. refl))
    refl here.ordered here.updates.0
    (c.in_ok-child-in-Some.ensures ∙ ap (λ es. set_at rest value (rows_at c.in_ok-copy-in-Some.field-0 es)) (sym c.new-children.ensures.empty)) in (
      search rules,
      subst Children (sym here.entries) (Children-insert _ _ _ (subst Children (sym c.new-children.ensures.empty) tt)
          (ap is_null c.in_ok-child-in-Some.ensures ∙ write_not_null rest value [] c.requires.some, subst InOrder (sym c.in_ok-child-in-Some.ensures) (in_order-after [] (write rest value ∷ [])))),
      here.ordered,
      subst IsValue (sym is) (value_after keys value [] c.requires.value c.requires.fits null_value),
    )

pub returns-in-None : goal.returns-in-None
returns-in-None g t c = write_root c.args.value [] c.requires.value.in_order ∙ ap (λ q. set_at q c.args.value []) (sym (no_keys c.args.keys.now c.in-None.ensures.cases))

pub returns-in_ok-insert-in-Some : goal.returns-in_ok-insert-in-Some
returns-in_ok-insert-in-Some g t c =
    let here = c.in_ok-insert-in-Some.ensures in
    object_write c.args.keys.now c.in_ok-copy-in-Some.field-0 c.in-Some.rest.now c.args.value [] c.new-children.result.entries _ (Some c.in_ok-child-in-Some.child)
    (c.in-Some.ensures.cases.0 ∙ ap (λ k. k ∷ c.in-Some.rest.now) (sym c.in_ok-copy-in-Some.ensures))
    (subst (HasChildren []) (sym c.new-children.ensures.empty) (λ l x. refl))
    refl here.ordered here.updates.0
    (c.in_ok-child-in-Some.ensures ∙ ap (λ es. set_at c.in-Some.rest.now c.args.value (rows_at c.in_ok-copy-in-Some.field-0 es)) (sym c.new-children.ensures.empty))
