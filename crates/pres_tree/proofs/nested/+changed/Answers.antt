use Rattle.std.proofs.Common.{◌≡◌, [], ◌∷◌, ◌++◌, sym, ap, ◌∙◌, subst, append_assoc, arith, length, rules}
use Rattle.std.specs.List.Sorted.{IsStrictlySortedBy}
use Rattle.std.specs.Map.{keys_of}
use Rattle.std.specs.BTreeMap.{insert_entry}
use Rattle.pres_tree.specs.Keys.{Key, key_cmp}
use Rattle.pres_tree.specs.Rows.{Rows, IsValue, height, with_leaves, children_with}
use Rattle.pres_tree.proofs.Values.{value_with}
use Rattle.pres_tree.specs.Layer.{Children, child_rows}
use Rattle.pres_tree.specs.Falls.{height-sorted_by}
use Rattle.pres_tree.proofs.Changed.{changed_object, changed_children, changed_length, changed_keys, children_with-append}
use Rattle.pres_tree.proofs.Nodes.{at_object, insert_last, tallest, tallest-le-height, tallest-middle}
use Rattle.pres_tree.proofs.nested.+changed.Goals as goal
use Rattle.std.proofs.lemmas.Grind.{common_steps}

pub Nested::changed-changed_children-requires : goal.Nested::changed-changed_children-requires
Nested::changed-changed_children-requires g t c κs within =
    let at = at_object {n = c.self.inside.node} c.in-Object.children c.self.invariant c.self.view_is c.in-Object.is in
    (omega (arith, c.decreases, tallest-le-height c.in-Object.children.entries at.children, height-sorted_by (child_rows c.in-Object.children.entries), ap height at.is), within)

pub Nested::changed-invariant_of-result : goal.Nested::changed-invariant_of-result
Nested::changed-invariant_of-result g t c =
    let at = at_object {n = c.self.inside.node} c.in-Object.children c.self.invariant c.self.view_is c.in-Object.is in
    let f = g.C.Change.makes c.args.how.now in
    let is = c.in_ok-changed-in-Object.ensures.entries in (
      omega (arith, at.some, ap length is, changed_length f c.in-Object.children.entries),
      subst Children (sym is) (changed_children f c.in-Object.children.entries at.children),
      c.in_ok-changed-in-Object.ensures.ordered,
      subst IsValue (sym (changed_object f c.in-Object.children.entries c.in_ok-changed-in-Object.changed.entries c.args.self.now is at.is)) (value_with f c.args.self.now at.value),
    )

pub Nested::changed-returns-in_ok-changed-in-Object : goal.Nested::changed-returns-in_ok-changed-in-Object
Nested::changed-returns-in_ok-changed-in-Object g t c =
    let at = at_object {n = c.self.inside.node} c.in-Object.children c.self.invariant c.self.view_is c.in-Object.is in
    changed_object (g.C.Change.makes c.args.how.now) c.in-Object.children.entries c.in_ok-changed-in-Object.changed.entries c.args.self.now c.in_ok-changed-in-Object.ensures.entries at.is

pub changed_children-loop-key-preserved : goal.changed_children-loop-key-preserved
changed_children-loop-key-preserved g t c =
    let l = c.loop-key in
    let f = g.C.Change.makes c.args.how.now in
    let done = l.invariant.0 in
    let e : Key × Rows g.row.L.Denot = (c.in-Some.key.now, c.in-Some.child.now) in
    let left = c.next.new.self in
    let all : c.args.children.now.entries ≡ done ++ e ∷ left = l.invariant.1 ∙ ap (λ es. done ++ es) c.in-Some.ensures.steps in
    let order = subst (λ es. IsStrictlySortedBy key_cmp (keys_of es)) all c.iter-key-items.ensures.ordered in
    let last = insert_last (children_with f done) (e.0, with_leaves f e.1) (children_with f left) (subst (IsStrictlySortedBy key_cmp) (sym (ap keys_of (sym (children_with-append f done (e ∷ left))) ∙ changed_keys f (done ++ e ∷ left))) order) in (
      done ++ e ∷ [],
      all ∙ sym (append_assoc done (e ∷ []) left),
      c.in_ok-insert.ensures.entries
          ∙ (λ i. insert_entry key_cmp (l.invariant.2 i) (c.in_ok-name.ensures i) (c.in_ok-changed.ensures i))
          ∙ last ∙ sym (children_with-append f done (e ∷ [])),
      c.in_ok-insert.ensures.ordered,
    )

pub changed_children-changed-requires : goal.changed_children-changed-requires
changed_children-changed-requires g t c κs within =
    let l = c.loop-key in
    let done = l.invariant.0 in
    let e : Key × Rows g.row.L.Denot = (c.in-Some.key.now, c.in-Some.child.now) in
    let left = c.next.new.self in
    let all : c.args.children.now.entries ≡ done ++ e ∷ left = l.invariant.1 ∙ ap (λ es. done ++ es) c.in-Some.ensures.steps in
    (omega (arith, c.decreases, tallest-middle done e left, ap tallest all), within)

pub changed_children-loop-key-preserved-derived : goal.changed_children-loop-key-preserved-derived
changed_children-loop-key-preserved-derived g t c = grind (arith, common_steps)

pub changed_children-loop-key-init : goal.changed_children-loop-key-init
changed_children-loop-key-init g t c = ([], search rules, search rules, search rules)

pub changed_children-returns-in_err-insert-clause-entries : goal.changed_children-returns-in_err-insert-clause-entries
changed_children-returns-in_err-insert-clause-entries g t c = grind (arith, common_steps)

pub Nested::changed-returns-in_ok-change-in-Leaf : goal.Nested::changed-returns-in_ok-change-in-Leaf
Nested::changed-returns-in_ok-change-in-Leaf g t c = grind (arith, common_steps)

pub Nested::changed-returns-in-Empty : goal.Nested::changed-returns-in-Empty
Nested::changed-returns-in-Empty g t c = grind (arith, common_steps)

pub changed_children-returns-clause-entries : goal.changed_children-returns-clause-entries
changed_children-returns-clause-entries g t c = grind (arith, common_steps)

pub changed_children-returns-clause-ordered : goal.changed_children-returns-clause-ordered
changed_children-returns-clause-ordered g t c = grind (arith, common_steps)

pub changed_children-same-insert : goal.changed_children-same-insert
changed_children-same-insert g t c = grind (arith, common_steps)

pub changed_children-returns-in_err-insert-clause-ordered : goal.changed_children-returns-in_err-insert-clause-ordered
changed_children-returns-in_err-insert-clause-ordered g t c = grind (arith, common_steps)

pub changed_children-returns-in_err-name-clause-entries : goal.changed_children-returns-in_err-name-clause-entries
changed_children-returns-in_err-name-clause-entries g t c = grind (arith, common_steps)

pub changed_children-returns-in_err-changed-clause-ordered : goal.changed_children-returns-in_err-changed-clause-ordered
changed_children-returns-in_err-changed-clause-ordered g t c = grind (arith, common_steps)

pub changed_children-returns-in_err-name-clause-ordered : goal.changed_children-returns-in_err-name-clause-ordered
changed_children-returns-in_err-name-clause-ordered g t c = grind (arith, common_steps)

pub changed_children-returns-in_err-changed-clause-entries : goal.changed_children-returns-in_err-changed-clause-entries
changed_children-returns-in_err-changed-clause-entries g t c = grind (arith, common_steps)
