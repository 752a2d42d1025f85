use Rattle.std.proofs.Common.{◌≡◌, [], ◌∷◌, ◌++◌, sym, ap, ◌∙◌, subst, append_assoc, append-nil, arith, length}
use Rattle.std.specs.List.Sorted.{IsStrictlySortedBy}
use Rattle.std.specs.Map.{keys_of}
use Rattle.std.specs.BTreeMap.{insert_entry}
use Rattle.pres_tree.specs.Keys.{Key, key_cmp}
use Rattle.pres_tree.specs.Rows.{Rows, IsValue, height, with_leaves, children_with}
use Rattle.pres_tree.proofs.Values.{value_with}
use Rattle.pres_tree.specs.Layer.{Children, child_rows}
use Rattle.pres_tree.specs.Falls.{height-sorted_by}
use Rattle.pres_tree.proofs.Changed.{changed_object, changed_children, changed_length, changed_keys, children_with-append}
use Rattle.pres_tree.proofs.Nodes.{at_object, tallest, tallest-le-height, tallest-middle}
use Rattle.pres_tree.proofs.Places.{first_in}
use Rattle.pres_tree.proofs.nested.+moved.Goals as goal
use Rattle.std.proofs.lemmas.Grind.{common_steps}

pub moved-moved_children-requires : goal.moved-moved_children-requires
moved-moved_children-requires g t c κs within =
    let at = at_object c.in-Object.children c.into_node.ensures.sound c.into_node.ensures.rows c.in-Object.is in
    (omega (arith, c.decreases, tallest-le-height c.in-Object.children.entries at.children, height-sorted_by (child_rows c.in-Object.children.entries), ap height at.is), within)

pub moved-invariant_of-result : goal.moved-invariant_of-result
moved-invariant_of-result g t c =
    let at = at_object c.in-Object.children c.into_node.ensures.sound c.into_node.ensures.rows c.in-Object.is in
    let f = g.C.Change.makes c.args.how.now in
    let is : c.in_ok-changed-in-Object.changed.entries ≡ children_with f c.in-Object.children.entries =
    c.in_ok-changed-in-Object.ensures.entries in (
      omega (arith, at.some, ap length is, changed_length f c.in-Object.children.entries),
      subst Children (sym is) (changed_children f c.in-Object.children.entries at.children),
      c.in_ok-changed-in-Object.ensures.ordered,
      subst IsValue (sym (changed_object f c.in-Object.children.entries c.in_ok-changed-in-Object.changed.entries c.args.value is at.is)) (value_with f c.args.value at.value),
    )

pub moved-returns-in_ok-changed-in-Object : goal.moved-returns-in_ok-changed-in-Object
moved-returns-in_ok-changed-in-Object g t c =
    let at = at_object c.in-Object.children c.into_node.ensures.sound c.into_node.ensures.rows c.in-Object.is in
    let f = g.C.Change.makes c.args.how.now in
    changed_object f c.in-Object.children.entries c.in_ok-changed-in-Object.changed.entries c.args.value
    c.in_ok-changed-in-Object.ensures.entries at.is

pub moved_children-children-init : goal.moved_children-children-init
moved_children-children-init g t c = ([], sym (append-nil c.args.children.entries), c.new-changed.ensures.empty, c.new-changed.ensures.ordered)

pub moved_children-moved-requires : goal.moved_children-moved-requires
moved_children-moved-requires g t c κs within =
    let done = c.children.invariant.0 in
    let e : Key × Rows g.row.L.Denot = (c.in-Some.key, c.in-Some.child) in
    let rest = c.pop_last.new.self.entries in
    let all : c.args.children.entries ≡ rest ++ e ∷ done = c.children.invariant.1 ∙ ap (λ es. es ++ done) c.in-Some.ensures.entries ∙ append_assoc rest (e ∷ []) done in
    (omega (arith, c.decreases, tallest-middle rest e done, ap tallest all), within)

pub moved_children-children-preserved : goal.moved_children-children-preserved
moved_children-children-preserved g t c =
    let f = g.C.Change.makes c.args.how.now in
    let done = c.children.invariant.0 in
    let e : Key × Rows g.row.L.Denot = (c.in-Some.key, c.in-Some.child) in
    let rest = c.pop_last.new.self.entries in
    let all : c.args.children.entries ≡ rest ++ e ∷ done = c.children.invariant.1 ∙ ap (λ es. es ++ done) c.in-Some.ensures.entries ∙ append_assoc rest (e ∷ []) done in
    let order = subst (λ es. IsStrictlySortedBy key_cmp (keys_of es)) all c.is_empty.ensures.ordered in
    let rise = subst (IsStrictlySortedBy key_cmp) (sym (ap keys_of (sym (children_with-append f rest (e ∷ done))) ∙ changed_keys f (rest ++ e ∷ done))) order in (
      e ∷ done,
      all,
      c.in_ok-insert.ensures.entries
          ∙ (λ i. insert_entry key_cmp (c.children.invariant.2 i) e.0 (c.in_ok-child.ensures i))
          ∙ first_in (children_with f rest) (children_with f done) e.0 (with_leaves f e.1) rise,
      c.in_ok-insert.ensures.ordered,
    )

pub moved_children-children-smaller : goal.moved_children-children-smaller
moved_children-children-smaller g t c = grind (arith, common_steps)

pub moved-returns-in-Empty : goal.moved-returns-in-Empty
moved-returns-in-Empty g t c = grind (arith, common_steps)

pub moved_children-returns-in_err-insert-clause-ordered : goal.moved_children-returns-in_err-insert-clause-ordered
moved_children-returns-in_err-insert-clause-ordered g t c = grind (arith, common_steps)

pub moved_children-returns-in_err-insert-clause-entries : goal.moved_children-returns-in_err-insert-clause-entries
moved_children-returns-in_err-insert-clause-entries g t c = grind (arith, common_steps)

pub moved-returns-in-Leaf : goal.moved-returns-in-Leaf
moved-returns-in-Leaf g t c = grind (arith, common_steps)

pub moved_children-returns-clause-entries : goal.moved_children-returns-clause-entries
moved_children-returns-clause-entries g t c = grind (arith, common_steps)
