use Rattle.std.proofs.Common.{◌≡◌, length, Some, ap, sym, refl, subst, ◌∙◌, arith, [], ◌∷◌, rules, true≢false, false, IsSome}
use Rattle.pres_tree.specs.Rows.{IsValue, InOrder, is_null, value_at}
use Rattle.pres_tree.specs.Writes.{write}
use Rattle.pres_tree.specs.Layer.{Children}
use Rattle.pres_tree.proofs.Found.{Children-at, Children-set, write_root, write_not_null, set_at, in_order-after}
use Rattle.pres_tree.proofs.Nodes.{at_object, in_order-value_at, no_keys, object_write, rows_at_some, value_at_absent, value_at_child}
use Rattle.pres_tree.proofs.Values.{value_after}
use Rattle.pres_tree.proofs.nested.Nested.+put_over.Goals as goal
use Rattle.std.proofs.lemmas.Grind.{common_steps}

pub returns-in_default : goal.returns-in_default
returns-in_default g t c =
    c.replace.ensures.after ∙ write_root c.args.value c.args.self.now c.requires.value.in_order ∙ ap (λ q. set_at q c.args.value c.args.self.now) (sym (no_keys c.args.keys.now c.in_default.ensures.cases))

pub returns-in_default-get_mut : goal.returns-in_default-get_mut
returns-in_default-get_mut g t c =
    let at = at_object {n = c.self.inside.node} c.in-Object.children c.self.invariant c.self.view_is c.in-Object.is in
    absurd (true≢false (
    sym (ap is_null (ap (λ q. value_at q c.args.self.now) c.in-Some.ensures.cases.0
    ∙ value_at_absent c.in-Some.key.now c.in-Some.rest.now c.args.self.now c.in-Object.children.entries at.has (sym c.in_default-get_mut.ensures.value) at.order))
    ∙ c.requires.stands))

pub put_over-requires : goal.put_over-requires
put_over-requires g t c κs within =
    let at = at_object {n = c.self.inside.node} c.in-Object.children c.self.invariant c.self.view_is c.in-Object.is in
    let k = c.in-Some.key.now in
    let rest = c.in-Some.rest.now in
    let child = c.in-Some-get_mut.child.now in
    let order : InOrder child = (Children-at k child c.in-Object.children.entries at.children (sym c.in-Some-get_mut.ensures.value)).1 in
    let stands : is_null (value_at rest child) ≡ false =
    sym (ap is_null (ap (λ q. value_at q c.args.self.now) c.in-Some.ensures.cases.0
    ∙ value_at_child k rest c.args.self.now child (value_at rest child) c.in-Object.children.entries at.has (sym c.in-Some-get_mut.ensures.value) at.order (in_order-value_at rest child order) refl))
    ∙ c.requires.stands in
    (omega (arith, c.decreases, ap length c.in-Some.ensures.cases.0), (within, (c.requires.some, (c.requires.value, (search rules, stands)))))

pub invariant_of-self-2 : goal.invariant_of-self-2
invariant_of-self-2 g t c =
    let at = at_object {n = c.self.inside.node} c.in-Object.children c.self.invariant c.self.view_is c.in-Object.is in
    let written = c.get_mut.follows.holds c.put_over.new.self in
    let is = object_write c.args.keys.now c.in-Some.key.now c.in-Some.rest.now c.args.value c.args.self.now c.in-Object.children.entries _ (Some c.put_over.new.self) c.in-Some.ensures.cases.0 at.has at.root written.4
    (written.3 (subst IsSome c.in-Some-get_mut.ensures.value refl)).0
    (c.put_over.ensures ∙ ap (set_at c.in-Some.rest.now c.args.value) (rows_at_some c.in-Some.key.now c.in-Object.children.entries _ c.in-Some-get_mut.ensures.value)) in (
      omega (arith, at.some, written.2),
      subst Children (sym written.0) (Children-set _ _ _ at.children (
        ap is_null c.put_over.ensures ∙ write_not_null c.in-Some.rest.now c.args.value c.in-Some-get_mut.child.now c.requires.some,
        subst InOrder (sym c.put_over.ensures) (in_order-after c.in-Some-get_mut.child.now (write c.in-Some.rest.now c.args.value ∷ [])),
      )),
      written.4,
      subst IsValue (sym is) (value_after c.args.keys.now c.args.value c.args.self.now c.requires.value c.requires.fits at.value),
    )

pub returns : goal.returns
returns g t c =
    let at = at_object {n = c.self.inside.node} c.in-Object.children c.self.invariant c.self.view_is c.in-Object.is in
    let written = c.get_mut.follows.holds c.put_over.new.self in
    object_write c.args.keys.now c.in-Some.key.now c.in-Some.rest.now c.args.value c.args.self.now c.in-Object.children.entries _ (Some c.put_over.new.self) c.in-Some.ensures.cases.0 at.has at.root written.4
    (written.3 (subst IsSome c.in-Some-get_mut.ensures.value refl)).0
    (c.put_over.ensures ∙ ap (set_at c.in-Some.rest.now c.args.value) (rows_at_some c.in-Some.key.now c.in-Object.children.entries _ c.in-Some-get_mut.ensures.value))

pub returns-in_default-node : goal.returns-in_default-node
returns-in_default-node g t c = grind (arith, common_steps)

pub invariant_of-self-in_default-get_mut : goal.invariant_of-self-in_default-get_mut
invariant_of-self-in_default-get_mut g t c = grind (arith, common_steps)
