use Rattle.std.proofs.Common.{◌≡◌, [], ◌∷◌, ◌++◌, sym, ap, ◌∙◌, subst, append_assoc, arith, length, rules}
use Rattle.std.specs.Prelude.{IfOk}
use Rattle.std.specs.List.Sorted.{IsStrictlySortedBy}
use Rattle.std.specs.Map.{keys_of}
use Rattle.std.specs.BTreeMap.{insert_entry}
use Rattle.pres_tree.specs.Keys.{Key, key_cmp}
use Rattle.pres_tree.specs.LeavesOn.{leaves_on, children_on}
use Rattle.pres_tree.specs.Rows.{Rows, IsValue, height, value_at}
use Rattle.pres_tree.specs.Layer.{Children, child_rows}
use Rattle.pres_tree.specs.Falls.{height-sorted_by}
use Rattle.pres_tree.proofs.ChangedOn.{value_on, changed_object_on, changed_children_on, changed_length_on, changed_keys_on, children_on-append, leaves_alone}
use Rattle.pres_tree.proofs.Nodes.{at_object, insert_last, tallest, tallest-le-height, tallest-middle}
use Rattle.pres_tree.proofs.+changed_on.Goals as goal

pub nested::Nested::changed_on-changed_children-requires : goal.nested::Nested::changed_on-changed_children-requires
nested::Nested::changed_on-changed_children-requires g t c κs within =
    let at = at_object {n = c.self.inside.node} c.in-Object.children c.self.invariant c.self.view_is c.in-Object.is in
    (omega (arith, c.decreases, tallest-le-height c.in-Object.children.entries at.children, height-sorted_by (child_rows c.in-Object.children.entries), ap height at.is), within)

pub nested::Nested::changed_on-invariant_of-result : goal.nested::Nested::changed_on-invariant_of-result
nested::Nested::changed_on-invariant_of-result g t c =
    let at = at_object {n = c.self.inside.node} c.in-Object.children c.self.invariant c.self.view_is c.in-Object.is in
    let f = g.C.ChangeOn.makes_on c.args.how.now in
    let held = c.args.held.now in
    let is = c.in_ok-changed-in-Object.ensures.entries in (
      omega (arith, at.some, ap length is, changed_length_on f held c.in-Object.children.entries),
      subst Children (sym is) (changed_children_on f held c.in-Object.children.entries at.children),
      c.in_ok-changed-in-Object.ensures.ordered,
      subst IsValue (sym (changed_object_on f held c.in-Object.children.entries c.in_ok-changed-in-Object.changed.entries c.args.self.now is at.is)) (value_on f held c.args.self.now at.value),
    )

pub nested::Nested::changed_on-returns-in_ok-changed-in-Object : goal.nested::Nested::changed_on-returns-in_ok-changed-in-Object
nested::Nested::changed_on-returns-in_ok-changed-in-Object g t c =
    let at = at_object {n = c.self.inside.node} c.in-Object.children c.self.invariant c.self.view_is c.in-Object.is in
    changed_object_on (g.C.ChangeOn.makes_on c.args.how.now) c.args.held.now c.in-Object.children.entries c.in_ok-changed-in-Object.changed.entries c.args.self.now c.in_ok-changed-in-Object.ensures.entries at.is

pub change_on::changed_children-loop-key-preserved : goal.change_on::changed_children-loop-key-preserved
change_on::changed_children-loop-key-preserved g t c =
    let l = c.loop-key in
    let f = g.C.ChangeOn.makes_on c.args.how.now in
    let held = c.args.held.now in
    let done = l.invariant.0 in
    let e : Key × Rows g.row.L.Denot = (c.in-Some.key.now, c.in-Some.child.now) in
    let left = c.next.new.self in
    let all : c.args.children.now.entries ≡ done ++ e ∷ left = l.invariant.1 ∙ ap (λ es. done ++ es) c.in-Some.ensures.steps in
    let order = subst (λ es. IsStrictlySortedBy key_cmp (keys_of es)) all c.iter-key-items.ensures.ordered in
    let last = insert_last (children_on f held done) (e.0, leaves_on f (value_at (e.0 ∷ []) held) e.1) (children_on f held left) (subst (IsStrictlySortedBy key_cmp) (sym (ap keys_of (sym (children_on-append f held done (e ∷ left))) ∙ changed_keys_on f held (done ++ e ∷ left))) order) in (
      done ++ e ∷ [],
      all ∙ sym (append_assoc done (e ∷ []) left),
      c.in_ok-insert.ensures.entries
          ∙ (λ i. insert_entry key_cmp (l.invariant.2 i) (c.in_ok-name.ensures i) (c.in_ok-changed_below.ensures i))
          ∙ last ∙ sym (children_on-append f held done (e ∷ [])),
      c.in_ok-insert.ensures.ordered,
    )

pub change_on::changed_children-changed_below-requires : goal.change_on::changed_children-changed_below-requires
change_on::changed_children-changed_below-requires g t c κs within =
    let l = c.loop-key in
    let done = l.invariant.0 in
    let e : Key × Rows g.row.L.Denot = (c.in-Some.key.now, c.in-Some.child.now) in
    let left = c.next.new.self in
    let all : c.args.children.now.entries ≡ done ++ e ∷ left = l.invariant.1 ∙ ap (λ es. done ++ es) c.in-Some.ensures.steps in
    (omega (arith, c.decreases, tallest-middle done e left, ap tallest all), within)

pub change_on::changed_children-loop-key-init : goal.change_on::changed_children-loop-key-init
change_on::changed_children-loop-key-init g t c = ([], search rules, search rules, search rules)

pub nested::Nested::changed_below-returns-in-Some : goal.nested::Nested::changed_below-returns-in-Some
nested::Nested::changed_below-returns-in-Some g t c =
    let f = g.C.ChangeOn.makes_on c.args.how.now in
    subst (λ v. IfOk c.changed_on.result (λ t. t ≡ leaves_on f v c.args.self.now)) (sym c.in-Some.ensures) c.changed_on.ensures

pub nested::Nested::changed_below-returns-in-None : goal.nested::Nested::changed_below-returns-in-None
nested::Nested::changed_below-returns-in-None g t c =
    let f = g.C.ChangeOn.makes_on c.args.how.now in
    let is = leaves_alone f (g.C.Change.makes c.args.how.now) c.args.self.now (g.met.C.ChangeOn.alone c.args.how.now) in
    subst (λ v. IfOk c.changed.result (λ t. t ≡ v)) (sym (ap (λ h. leaves_on f h c.args.self.now) c.in-None.ensures ∙ is)) c.changed.ensures
