use Rattle.std.proofs.Common.{◌≡◌, ◌+◌, suc, false, take, Some, ap, sym, refl, subst, ◌∙◌, arith, [], ◌∷◌, rules, IsSome}
use Rattle.std.specs.BTreeMap.{is_at}
use Rattle.std.specs.Map.{set_value}
use Rattle.std.proofs.lemmas.Result.{err_from_is_err_and}
use Rattle.pres_tree.specs.Keys.{key_cmp}
use Rattle.pres_tree.specs.Paths.{path_cmp, sorted_by}
use Rattle.pres_tree.specs.Rows.{IsValue, InOrder, is_null}
use Rattle.pres_tree.specs.Writes.{write}
use Rattle.pres_tree.specs.Layer.{Children, child_rows}
use Rattle.pres_tree.specs.Writes.{Undoes}
use Rattle.pres_tree.proofs.Undone.{undoes_child, undoes_root}
use Rattle.pres_tree.proofs.Found.{HasChildren, in_order, object_children, object_root, Children-insert, Children-set, set_same, write_root, write_not_null, write_over, rows_at, set_at, in_order-after}
use Rattle.pres_tree.proofs.Values.{value_after}
use Rattle.pres_tree.proofs.Nodes.{view_order, at_object, at_other, no_keys, object_write, rows_at_some, rows_at_none}
use Rattle.pres_tree.proofs.nested.Nested.+put.Goals as goal
use Rattle.std.proofs.lemmas.Grind.{common_steps}

pub returns-in_default-clause-ok : goal.returns-in_default-clause-ok
returns-in_default-clause-ok g t c =
    c.replace-old.ensures.after ∙ write_root c.args.value c.args.self.now c.requires.value.in_order ∙ ap (λ q. set_at q c.args.value c.args.self.now) (sym (no_keys c.args.keys.now c.in_default.ensures.cases))

pub invariant_of-self : goal.invariant_of-self
invariant_of-self g t c =
    let at = at_object {n = c.self.inside.node} c.in-Object.children c.self.invariant c.self.view_is c.in-Object.is in
    let written = c.get_mut.follows.holds c.put.new.self in
    let same = written.0 ∙ ap (set_value (is_at (key_cmp c.in-Some.key.now)) c.in-Object.children.entries) c.in_err-depth.ensures.err ∙ set_same c.in-Some.key.now c.in-Some-get_mut.child.now c.in-Object.children.entries (sym c.in-Some-get_mut.ensures.value) in
    (omega (arith, at.some, written.2), subst Children (sym same) at.children, written.4, subst (λ es. IsValue (sorted_by path_cmp (child_rows es))) (sym same) at.whole)

pub returns-in_err-depth-clause-err : goal.returns-in_err-depth-clause-err
returns-in_err-depth-clause-err g t c =
    let at = at_object {n = c.self.inside.node} c.in-Object.children c.self.invariant c.self.view_is c.in-Object.is in
    let written = c.get_mut.follows.holds c.put.new.self in
    let same = written.0 ∙ ap (set_value (is_at (key_cmp c.in-Some.key.now)) c.in-Object.children.entries) c.in_err-depth.ensures.err ∙ set_same c.in-Some.key.now c.in-Some-get_mut.child.now c.in-Object.children.entries (sym c.in-Some-get_mut.ensures.value) in
    let p = err_from_is_err_and c.from_residual.result c.from_residual.ensures.1 in
    rw p.1 (ap (λ es. sorted_by path_cmp (child_rows es)) same ∙ at.is)

pub invariant_of-self-in-Some-get_mut : goal.invariant_of-self-in-Some-get_mut
invariant_of-self-in-Some-get_mut g t c =
    let at = at_object {n = c.self.inside.node} c.in-Object.children c.self.invariant c.self.view_is c.in-Object.is in
    let written = c.get_mut.follows.holds c.put.new.self in
    let is = object_write c.args.keys.now c.in-Some.key.now c.in-Some.rest.now c.args.value c.args.self.now c.in-Object.children.entries _ (Some c.put.new.self) c.in-Some.ensures.cases.0 at.has at.root written.4
    (written.3 (subst IsSome c.in-Some-get_mut.ensures.value refl)).0
    (c.in_ok-depth.ensures.ok ∙ ap (set_at c.in-Some.rest.now c.args.value) (rows_at_some c.in-Some.key.now c.in-Object.children.entries _ c.in-Some-get_mut.ensures.value)) in (
      omega (arith, at.some, written.2),
      subst Children (sym written.0) (Children-set _ _ _ at.children (
        ap is_null c.in_ok-depth.ensures.ok ∙ write_not_null c.in-Some.rest.now c.args.value c.in-Some-get_mut.child.now c.requires.some,
        subst InOrder (sym c.in_ok-depth.ensures.ok) (in_order-after c.in-Some-get_mut.child.now (write c.in-Some.rest.now c.args.value ∷ [])),
      )),
      written.4,
      subst IsValue (sym is) (value_after c.args.keys.now c.args.value c.args.self.now c.requires.value c.requires.fits at.value),
    )

pub returns-in-Some-get_mut-clause-ok : goal.returns-in-Some-get_mut-clause-ok
returns-in-Some-get_mut-clause-ok g t c =
    let at = at_object {n = c.self.inside.node} c.in-Object.children c.self.invariant c.self.view_is c.in-Object.is in
    let written = c.get_mut.follows.holds c.put.new.self in
    object_write c.args.keys.now c.in-Some.key.now c.in-Some.rest.now c.args.value c.args.self.now c.in-Object.children.entries _ (Some c.put.new.self) c.in-Some.ensures.cases.0 at.has at.root written.4
    (written.3 (subst IsSome c.in-Some-get_mut.ensures.value refl)).0
    (c.in_ok-depth.ensures.ok ∙ ap (set_at c.in-Some.rest.now c.args.value) (rows_at_some c.in-Some.key.now c.in-Object.children.entries _ c.in-Some-get_mut.ensures.value))

pub invariant_of-self-in-Object : goal.invariant_of-self-in-Object
invariant_of-self-in-Object g t c =
    let at = at_object {n = c.self.inside.node} c.in-Object.children c.self.invariant c.self.view_is c.in-Object.is in
    let here = c.in_ok-insert.ensures in
    let before = ap (λ m. m.entries) c.get_mut.follows.holds-at-none in
    let is = object_write c.args.keys.now c.in_ok-copy.field-0 c.in-Some.rest.now c.args.value c.args.self.now _ _ (Some c.in_ok-child.child)
    (c.in-Some.ensures.cases.0 ∙ ap (λ k. k ∷ c.in-Some.rest.now) (sym c.in_ok-copy.ensures))
    (subst (HasChildren c.args.self.now) (sym before) at.has) at.root here.ordered here.updates.0
    (c.in_ok-child.ensures
    ∙ ap (set_at c.in-Some.rest.now c.args.value) (rows_at_none c.in-Some.key.now c.in-Object.children.entries c.in_default-get_mut.ensures.value)
    ∙ (λ i. set_at c.in-Some.rest.now c.args.value (rows_at (sym c.in_ok-copy.ensures i) (sym before i)))) in (
      search rules,
      subst Children (sym here.entries) (Children-insert _ _ _ (subst Children (sym before) at.children) (
        ap is_null c.in_ok-child.ensures ∙ write_not_null c.in-Some.rest.now c.args.value [] c.requires.some,
        subst InOrder (sym c.in_ok-child.ensures) (in_order-after [] (write c.in-Some.rest.now c.args.value ∷ [])),
      )),
      here.ordered,
      subst IsValue (sym is) (value_after c.args.keys.now c.args.value c.args.self.now c.requires.value c.requires.fits at.value),
    )

pub returns-in-Object-clause-ok : goal.returns-in-Object-clause-ok
returns-in-Object-clause-ok g t c =
    let at = at_object {n = c.self.inside.node} c.in-Object.children c.self.invariant c.self.view_is c.in-Object.is in
    let here = c.in_ok-insert.ensures in
    let before = ap (λ m. m.entries) c.get_mut.follows.holds-at-none in
    object_write c.args.keys.now c.in_ok-copy.field-0 c.in-Some.rest.now c.args.value c.args.self.now _ _ (Some c.in_ok-child.child)
    (c.in-Some.ensures.cases.0 ∙ ap (λ k. k ∷ c.in-Some.rest.now) (sym c.in_ok-copy.ensures))
    (subst (HasChildren c.args.self.now) (sym before) at.has) at.root here.ordered here.updates.0
    (c.in_ok-child.ensures
    ∙ ap (set_at c.in-Some.rest.now c.args.value) (rows_at_none c.in-Some.key.now c.in-Object.children.entries c.in_default-get_mut.ensures.value)
    ∙ (λ i. set_at c.in-Some.rest.now c.args.value (rows_at (sym c.in_ok-copy.ensures i) (sym before i))))

pub returns-in_default-clause-back : goal.returns-in_default-clause-back
returns-in_default-clause-back g t c =
    subst (Undoes [] c.replace-old.result c.args.self.now) (sym c.replace-old.ensures.after)
    (subst (λ o. Undoes [] o c.args.self.now c.args.value) (sym c.replace-old.ensures.value)
    (undoes_root c.args.self.now c.args.value (subst InOrder c.replace-old.ensures.value c.is_empty.ensures.value.in_order) c.requires.some))

pub returns-in-Some-get_mut-clause-back : goal.returns-in-Some-get_mut-clause-back
returns-in-Some-get_mut-clause-back g t c =
    let at = at_object {n = c.self.inside.node} c.in-Object.children c.self.invariant c.self.view_is c.in-Object.is in
    let written = c.get_mut.follows.holds c.put.new.self in
    let es' = (c.get_mut.follows.lender c.put.new.self).entries in
    let depth = c.in_ok-depth.depth in
    let rest = c.in-Some.rest.now in
    let k = c.in-Some.key.now in
    let more : suc depth ≡ depth + 1 = omega arith in
    undoes_child (take (depth + 1) c.args.keys.now) k (take depth rest) c.in_ok-depth.old c.args.self.now (sorted_by path_cmp (child_rows es')) c.put.new.self c.in-Object.children.entries es'
    (ap (take (depth + 1)) c.in-Some.ensures.cases.0 ∙ sym (ap (λ n. take n (k ∷ rest)) more))
    at.has (object_children es' written.4) (written.3 (subst IsSome c.in-Some-get_mut.ensures.value refl)).0
    at.root (object_root es') at.order (in_order (child_rows es'))
    (subst InOrder (sym c.in_ok-depth.ensures.ok) (in_order-after c.in-Some-get_mut.child.now (write rest c.args.value ∷ [])))
    (subst (λ o. Undoes (take depth rest) c.in_ok-depth.old o c.put.new.self) (rows_at_some k c.in-Object.children.entries _ c.in-Some-get_mut.ensures.value) c.in_ok-depth.ensures.back)

pub returns-in-Object-clause-back : goal.returns-in-Object-clause-back
returns-in-Object-clause-back g t c =
    let at = at_object {n = c.self.inside.node} c.in-Object.children c.self.invariant c.self.view_is c.in-Object.is in
    let set = c.in_ok-insert.ensures in
    let before = ap (λ m. m.entries) c.get_mut.follows.holds-at-none in
    let es' = c.insert.new.self.entries in
    let k = c.in_ok-copy.field-0 in
    let child = c.in_ok-child.child in
    let order : InOrder child = subst InOrder (sym c.in_ok-child.ensures) (in_order-after [] (write c.in-Some.rest.now c.args.value ∷ [])) in
    let some : is_null child ≡ false = ap is_null c.in_ok-child.ensures ∙ write_not_null c.in-Some.rest.now c.args.value [] c.requires.some in
    let none : [] ≡ rows_at k _ = rows_at_none c.in-Some.key.now c.in-Object.children.entries c.in_default-get_mut.ensures.value ∙ (λ i. rows_at (sym c.in_ok-copy.ensures i) (sym before i)) in
    subst (λ o. Undoes (take 1 c.args.keys.now) o c.args.self.now (sorted_by path_cmp (child_rows es'))) (sym c.empty.ensures)
    (undoes_child (take 1 c.args.keys.now) k [] [] c.args.self.now (sorted_by path_cmp (child_rows es')) child _ es'
    (ap (take 1) c.in-Some.ensures.cases.0 ∙ ap (λ q. q ∷ []) (sym c.in_ok-copy.ensures))
    (subst (HasChildren c.args.self.now) (sym before) at.has) (object_children es' set.ordered) set.updates.0
    at.root (object_root es') at.order (in_order (child_rows es')) order
    (subst (λ o. Undoes [] [] o child) none (undoes_root [] child tt some)))

pub returns : goal.returns
returns g t c =
    let over = write_over c.in-Some.key.now c.in-Some.rest.now c.args.value c.args.self.now c.requires.some (at_other c.self.inside.node _ c.self.view_is c.in_default-node.not-Object) in
    let is = c.in_ok-branch.ensures
    ∙ ap (λ q. set_at q c.args.value []) c.in-Some.ensures.cases.0 ∙ over
    ∙ ap (λ q. set_at q c.args.value c.args.self.now) (sym c.in-Some.ensures.cases.0) in
    record {
      ok = c.replace.ensures.after ∙ is;
      depth = omega arith;
      back = subst (Undoes [] c.replace.result c.args.self.now) (sym c.replace.ensures.after)
          (subst (λ o. Undoes [] o c.args.self.now c.in_ok-branch.branch) (sym (c.replace.ensures.value ∙ c.self.view_is))
          (undoes_root c.args.self.now c.in_ok-branch.branch (view_order c.self.inside.node _ c.self.view_is)
          (ap is_null c.in_ok-branch.ensures ∙ write_not_null c.args.keys.now c.args.value [] c.requires.some)));
      err = tt;
    }

pub returns-in_err-copy-clause-err : goal.returns-in_err-copy-clause-err
returns-in_err-copy-clause-err g t c = grind (arith, common_steps)

pub invariant_of-self-in_err-branch : goal.invariant_of-self-in_err-branch
invariant_of-self-in_err-branch g t c = grind (arith, common_steps)

pub returns-in_err-copy-clause-back : goal.returns-in_err-copy-clause-back
returns-in_err-copy-clause-back g t c = grind (arith, common_steps)

pub invariant_of-self-in_err-insert : goal.invariant_of-self-in_err-insert
invariant_of-self-in_err-insert g t c = grind (arith, common_steps)

pub returns-in_err-insert-clause-ok : goal.returns-in_err-insert-clause-ok
returns-in_err-insert-clause-ok g t c = grind (arith, common_steps)

pub returns-in_err-copy-clause-ok : goal.returns-in_err-copy-clause-ok
returns-in_err-copy-clause-ok g t c = grind (arith, common_steps)

pub returns-in_err-child-clause-err : goal.returns-in_err-child-clause-err
returns-in_err-child-clause-err g t c = grind (arith, common_steps)

pub returns-in_err-insert-clause-back : goal.returns-in_err-insert-clause-back
returns-in_err-insert-clause-back g t c = grind (arith, common_steps)

pub overflow_add-result : goal.overflow_add-result
overflow_add-result g t c = grind (arith, common_steps)

pub invariant_of-self-2 : goal.invariant_of-self-2
invariant_of-self-2 g t c = grind (arith, common_steps)

pub invariant_of-self-in_err-child : goal.invariant_of-self-in_err-child
invariant_of-self-in_err-child g t c = grind (arith, common_steps)

pub returns-in-Some-get_mut-clause-depth : goal.returns-in-Some-get_mut-clause-depth
returns-in-Some-get_mut-clause-depth g t c = grind (arith, common_steps)

pub returns-in-Object-clause-depth : goal.returns-in-Object-clause-depth
returns-in-Object-clause-depth g t c = grind (arith, common_steps)

pub invariant_of-self-in_err-copy : goal.invariant_of-self-in_err-copy
invariant_of-self-in_err-copy g t c = grind (arith, common_steps)

pub branch-alloc-requires-clause-fits : goal.branch-alloc-requires-clause-fits
branch-alloc-requires-clause-fits g t c = grind (arith, common_steps)

pub returns-in_err-insert-clause-err : goal.returns-in_err-insert-clause-err
returns-in_err-insert-clause-err g t c = grind (arith, common_steps)
