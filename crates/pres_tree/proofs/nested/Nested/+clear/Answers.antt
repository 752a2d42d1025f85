use Rattle.std.proofs.Common.{Some, None, ap, sym, refl, subst, ◌∙◌, length, arith, rules, [], ◌≡◌, IsSome}
use Rattle.std.specs.BTreeMap.{is_at}
use Rattle.std.specs.Map.{remove_entry}
use Rattle.pres_tree.specs.Keys.{key_cmp}
use Rattle.pres_tree.specs.Paths.{path_cmp, sorted_by}
use Rattle.pres_tree.specs.Rows.{IsValue}
use Rattle.pres_tree.specs.Layer.{Children, child_rows}
use Rattle.pres_tree.proofs.Values.{null_value, null_fits, value_after}
use Rattle.pres_tree.proofs.Found.{Children-set, Children-remove, null_is_empty, sets_then, write_root, write_absent, rows_at, set_at}
use Rattle.pres_tree.proofs.Nodes.{at_object, at_other, no_keys, object_write, empty_write, rows_at_some, view_order}
use Rattle.pres_tree.proofs.nested.Nested.+clear.Goals as goal
use Rattle.pres_tree.proofs.nested.Nested.+clear.Goals.{in-Leaf-2, in-Object-2, in-Empty-2}
use Rattle.std.proofs.lemmas.Grind.{common_steps}

pub returns-in_default : goal.returns-in_default
returns-in_default g t c =
    write_root [] c.args.self.now tt ∙ ap (λ q. set_at q [] c.args.self.now) (sym (no_keys c.args.keys.now c.in_default.ensures.cases))

pub returns-in_default-get_mut : goal.returns-in_default-get_mut
returns-in_default-get_mut g t c =
    let at = at_object {n = c.self.inside.node} c.in-Object.children c.self.invariant c.self.view_is c.in-Object.is in
    ap (λ m. sorted_by path_cmp (child_rows m.entries)) c.get_mut.follows.holds-at-none ∙ at.is
    ∙ write_absent c.in-Some.key.now c.in-Some.rest.now c.args.self.now c.in-Object.children.entries at.order at.has (sym c.in_default-get_mut.ensures.value)
    ∙ ap (λ q. set_at q [] c.args.self.now) (sym c.in-Some.ensures.cases.0)

pub invariant_of-self-then-not-is_empty : goal.invariant_of-self-then-not-is_empty
invariant_of-self-then-not-is_empty g t c =
    let at = at_object {n = c.self.inside.node} c.in-Object.children c.self.invariant c.self.view_is c.in-Object.is in
    let written = c.get_mut.follows.holds c.clear.new.self in
    let is = object_write c.args.keys.now c.in-Some.key.now c.in-Some.rest.now [] c.args.self.now c.in-Object.children.entries _ (Some c.clear.new.self) c.in-Some.ensures.cases.0 at.has at.root written.4
    (written.3 (subst IsSome c.in-Some-get_mut.ensures.value refl)).0
    (c.clear.ensures ∙ ap (set_at c.in-Some.rest.now []) (rows_at_some c.in-Some.key.now c.in-Object.children.entries _ c.in-Some-get_mut.ensures.value)) in (
      omega (arith, at.some, written.2),
      subst Children (sym written.0) (Children-set _ _ _ at.children (sym c.if-not-is_empty.ensures.null, c.if-not-is_empty.ensures.value.in_order)),
      written.4,
      subst IsValue (sym is) (value_after c.args.keys.now [] c.args.self.now null_value (null_fits g.row.L.Denot c.args.keys.now) at.value),
    )

pub returns-then-not-is_empty : goal.returns-then-not-is_empty
returns-then-not-is_empty g t c =
    let at = at_object {n = c.self.inside.node} c.in-Object.children c.self.invariant c.self.view_is c.in-Object.is in
    let written = c.get_mut.follows.holds c.clear.new.self in
    object_write c.args.keys.now c.in-Some.key.now c.in-Some.rest.now [] c.args.self.now c.in-Object.children.entries _ (Some c.clear.new.self) c.in-Some.ensures.cases.0 at.has at.root written.4
    (written.3 (subst IsSome c.in-Some-get_mut.ensures.value refl)).0
    (c.clear.ensures ∙ ap (set_at c.in-Some.rest.now []) (rows_at_some c.in-Some.key.now c.in-Object.children.entries _ c.in-Some-get_mut.ensures.value))

pub invariant_of-self-else-is_empty : goal.invariant_of-self-else-is_empty
invariant_of-self-else-is_empty g t c =
    let at = at_object {n = c.self.inside.node} c.in-Object.children c.self.invariant c.self.view_is c.in-Object.is in
    let written = c.get_mut.follows.holds c.clear.new.self in
    let child : [] ≡ set_at c.in-Some.rest.now [] (rows_at c.in-Some.key.now c.in-Object.children.entries) =
    sym (null_is_empty c.clear.new.self (sym c.if-not-is_empty.ensures.null)) ∙ c.clear.ensures ∙ ap (set_at c.in-Some.rest.now []) (rows_at_some c.in-Some.key.now c.in-Object.children.entries _ c.in-Some-get_mut.ensures.value) in
    let is = object_write c.args.keys.now c.in-Some.key.now c.in-Some.rest.now [] c.args.self.now c.in-Object.children.entries _ None c.in-Some.ensures.cases.0 at.has at.root c.remove.ensures.ordered
    (sets_then c.in-Some.key.now (Some c.clear.new.self) None _ _ _ (written.3 (subst IsSome c.in-Some-get_mut.ensures.value refl)).0 c.remove.ensures.updates.0)
    child in (
      search rules,
      subst Children (sym (c.remove.ensures.entries ∙ ap (remove_entry (is_at (key_cmp c.in-Some.key.now))) written.0)) (Children-remove c.in-Some.key.now _ _ at.children),
      c.remove.ensures.ordered,
      subst IsValue (sym is) (value_after c.args.keys.now [] c.args.self.now null_value (null_fits g.row.L.Denot c.args.keys.now) at.value),
    )

pub returns-then-is_empty : goal.returns-then-is_empty
returns-then-is_empty g t c =
    let at = at_object {n = c.self.inside.node} c.in-Object.children c.self.invariant c.self.view_is c.in-Object.is in
    let written = c.get_mut.follows.holds c.clear.new.self in
    let child : [] ≡ set_at c.in-Some.rest.now [] (rows_at c.in-Some.key.now c.in-Object.children.entries) =
    sym (null_is_empty c.clear.new.self (sym c.if-not-is_empty.ensures.null)) ∙ c.clear.ensures ∙ ap (set_at c.in-Some.rest.now []) (rows_at_some c.in-Some.key.now c.in-Object.children.entries _ c.in-Some-get_mut.ensures.value) in
    let none : length c.remove.new.self.entries ≡ 0 = search rules in
    let done : [] ≡ set_at c.args.keys.now [] c.args.self.now =
    empty_write c.args.keys.now c.in-Some.key.now c.in-Some.rest.now [] c.args.self.now c.in-Object.children.entries c.remove.new.self.entries None c.in-Some.ensures.cases.0 at.has at.root none
    (sets_then c.in-Some.key.now (Some c.clear.new.self) None _ _ _ (written.3 (subst IsSome c.in-Some-get_mut.ensures.value refl)).0 c.remove.ensures.updates.0)
    child in
    elim c.match-self-3.branch [
      | in-Leaf-2 w ↦ w.self-is ∙ done
      | in-Object-2 w ↦ w.self-is ∙ done
      | in-Empty-2 w ↦ w.self-is ∙ done
    ]

pub returns-else-is_empty : goal.returns-else-is_empty
returns-else-is_empty g t c =
    let at = at_object {n = c.self.inside.node} c.in-Object.children c.self.invariant c.self.view_is c.in-Object.is in
    let written = c.get_mut.follows.holds c.clear.new.self in
    let child : [] ≡ set_at c.in-Some.rest.now [] (rows_at c.in-Some.key.now c.in-Object.children.entries) =
    sym (null_is_empty c.clear.new.self (sym c.if-not-is_empty.ensures.null)) ∙ c.clear.ensures ∙ ap (set_at c.in-Some.rest.now []) (rows_at_some c.in-Some.key.now c.in-Object.children.entries _ c.in-Some-get_mut.ensures.value) in
    object_write c.args.keys.now c.in-Some.key.now c.in-Some.rest.now [] c.args.self.now c.in-Object.children.entries _ None c.in-Some.ensures.cases.0 at.has at.root c.remove.ensures.ordered
    (sets_then c.in-Some.key.now (Some c.clear.new.self) None _ _ _ (written.3 (subst IsSome c.in-Some-get_mut.ensures.value refl)).0 c.remove.ensures.updates.0)
    child

pub returns-in_default-node : goal.returns-in_default-node
returns-in_default-node g t c =
    c.self.view_is ∙ write_absent c.in-Some.key.now c.in-Some.rest.now c.args.self.now [] (view_order c.self.inside.node _ c.self.view_is) (at_other c.self.inside.node _ c.self.view_is c.in_default-node.not-Object) refl ∙ ap (λ q. set_at q [] c.args.self.now) (sym c.in-Some.ensures.cases.0)

pub invariant_of-self-in_default-get_mut : goal.invariant_of-self-in_default-get_mut
invariant_of-self-in_default-get_mut g t c = grind (arith, common_steps)
