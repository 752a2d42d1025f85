use Rattle.std.proofs.Common.{◌≡◌, ◌+◌, ◌-◌, ◌≤◌, [], ◌∷◌, ◌++◌, sym, ap, ◌∙◌, subst, append_assoc, arith, append-nil}
use Rattle.std.specs.Prelude.{string_bytes}
use Rattle.std.specs.List.Sorted.{IsStrictlySortedBy}
use Rattle.std.specs.Map.{keys_of}
use Rattle.serde_json.specs.Data.{object}
use Rattle.serde_json.specs.View.{view, members_view}
use Rattle.serde_json.proofs.Views.{view-Object}
use Rattle.pres_tree.specs.Keys.{Key, key_cmp}
use Rattle.pres_tree.specs.Paths.{path_cmp, sorted_by}
use Rattle.pres_tree.specs.Rows.{Rows, height}
use Rattle.pres_tree.specs.Layer.{child_rows, rows_of_node}
use Rattle.pres_tree.specs.Falls.{height-sorted_by}
use Rattle.pres_tree.specs.JsonReading.{rows_of, fault_of, fault_or, rows_or, members_rows, members_fault}
use Rattle.pres_tree.specs.JsonPrinting.{json_of, members_of, MembersReadBack}
use Rattle.pres_tree.proofs.Nodes.{at_object, tallest, tallest-le-height, tallest-middle}
use Rattle.pres_tree.proofs.Printing.{leaf_printed, json-object, Printed, printed-none, printed-more, printed-json, printed-reads_back, texts, text_end, texts_rise}
use Rattle.pres_tree.proofs.print.+print.Goals as goal
use Rattle.std.proofs.lemmas.Grind.{common_steps}

pub to_value-printed-requires : goal.to_value-printed-requires
to_value-printed-requires g t c κs within =
    let at = at_object {n = c.tree.inside.node} c.in-Object.children c.tree.invariant c.tree.view_is c.in-Object.is in
    (omega (arith, c.decreases, tallest-le-height c.in-Object.children.entries at.children, height-sorted_by (child_rows c.in-Object.children.entries), ap height at.is), within)

pub to_value-returns-in-Leaf-clause-reads_back :
    goal.to_value-returns-in-Leaf-clause-reads_back
to_value-returns-in-Leaf-clause-reads_back g t c =
    let is = sym (ap rows_of_node c.in-Leaf.is) ∙ c.tree.view_is in
    leaf_printed view g.P.LeafForm.reading c.print.result c.in-Leaf.leaf c.args.tree.now is c.print.ensures.reads_back

pub to_value-returns-in_ok-printed-in-Object-clause-json :
    goal.to_value-returns-in_ok-printed-in-Object-clause-json
to_value-returns-in_ok-printed-in-Object-clause-json g t c =
    let at = at_object {n = c.tree.inside.node} c.in-Object.children c.tree.invariant c.tree.view_is c.in-Object.is in
    view-Object c.in_ok-printed-in-Object.field-0 ∙ ap object c.in_ok-printed-in-Object.ensures.json
    ∙ sym (json-object g.P.PrintedForm.printing c.in-Object.children.entries at.some at.children at.ordered)
    ∙ ap (json_of g.P.PrintedForm.printing) at.is

pub to_value-returns-in_ok-printed-in-Object-clause-reads_back :
    goal.to_value-returns-in_ok-printed-in-Object-clause-reads_back
to_value-returns-in_ok-printed-in-Object-clause-reads_back g t c =
    let at = at_object {n = c.tree.inside.node} c.in-Object.children c.tree.invariant c.tree.view_is c.in-Object.is in
    let f = g.P.LeafForm.reading in
    let ms = members_view c.in_ok-printed-in-Object.field-0.entries in
    let back = c.in_ok-printed-in-Object.ensures.reads_back in
    let is = view-Object c.in_ok-printed-in-Object.field-0 in
    let branch = g.met.P.PrintedForm.object_is_branch ms back.0 in (
      ap (rows_of f) is ∙ ap (λ r. rows_or r (sorted_by path_cmp (members_rows f ms))) branch ∙ ap (sorted_by path_cmp) back.1 ∙ at.is,
      λ n h.
          let room : height (child_rows c.in-Object.children.entries) ≤ (n - 1) + 1 = omega (arith, height-sorted_by (child_rows c.in-Object.children.entries), ap height at.is, h) in
          ap (fault_of f n) is ∙ ap (λ r. fault_or n r (members_fault f (n - 1) ms)) branch ∙ back.2 (n - 1) room,
    )

pub printed-loop-key-init : goal.printed-loop-key-init
printed-loop-key-init g t c =
    let all = c.into_iter-key-iterator.result in
    let same = c.into_iter-key-iterator.ensures.into_iter_gives ∙ c.iter-key-items.ensures.rest in
    let none = c.new-members.ensures.empty in (
      [],
      sym same,
      subst (Printed g.P.PrintedForm.printing g.P.LeafForm.reading []) (sym none) (printed-none g.P.PrintedForm.printing g.P.LeafForm.reading),
      subst (λ ms. IsStrictlySortedBy key_cmp (texts ms ++ keys_of all)) (sym none) (subst (λ es. IsStrictlySortedBy key_cmp (keys_of es)) (sym same) c.iter-key-items.ensures.ordered),
    )

pub printed-loop-key-preserved : goal.printed-loop-key-preserved
printed-loop-key-preserved g t c =
    let l = c.loop-key in
    let done = l.invariant.0 in
    let key = c.in-Some.key.now in
    let child = c.in-Some.child.now in
    let e : Key × Rows g.row.L.Denot = (key, child) in
    let left = c.next.new.self in
    let name = c.in_ok-name.name in
    let made = c.in_ok-to_value.field-0 in
    let named : string_bytes name ≡ key = c.in_ok-name.ensures.ok ∙ c.text.ensures.text in
    let rise : IsStrictlySortedBy key_cmp (texts l.members.entries ++ string_bytes name ∷ keys_of left) =
    subst (λ k. IsStrictlySortedBy key_cmp (texts l.members.entries ++ k ∷ keys_of left)) (sym named) (subst (λ es. IsStrictlySortedBy key_cmp (texts l.members.entries ++ keys_of es)) c.in-Some.ensures.steps l.invariant.3) in
    let inserted = c.in_ok-insert.ensures.entries ∙ text_end l.members.entries name made (keys_of left) rise in (
      done ++ e ∷ [],
      l.invariant.1 ∙ ap (λ es. done ++ es) c.in-Some.ensures.steps ∙ sym (append_assoc done (e ∷ []) left),
      subst (Printed g.P.PrintedForm.printing g.P.LeafForm.reading (done ++ e ∷ [])) (sym inserted)
          (printed-more g.P.PrintedForm.printing g.P.LeafForm.reading done l.members.entries key child name made l.invariant.2 named c.text.ensures.key c.in_ok-to_value.ensures.json c.in_ok-to_value.ensures.reads_back),
      subst (λ ms. IsStrictlySortedBy key_cmp (texts ms ++ keys_of left)) (sym inserted) (texts_rise l.members.entries name made (keys_of left) rise),
    )

pub printed-returns-clause-json : goal.printed-returns-clause-json
printed-returns-clause-json g t c =
    let l = c.loop-key in
    let all : c.args.children.now.entries ≡ l.invariant.0 = l.invariant.1 ∙ ap (λ es. l.invariant.0 ++ es) c.in-None.ensures.steps.0 ∙ append-nil l.invariant.0 in
    printed-json g.P.PrintedForm.printing g.P.LeafForm.reading l.invariant.0 l.members.entries l.invariant.2 ∙ ap (members_of g.P.PrintedForm.printing) (sym all)

pub printed-returns-clause-reads_back : goal.printed-returns-clause-reads_back
printed-returns-clause-reads_back g t c =
    let l = c.loop-key in
    let all : c.args.children.now.entries ≡ l.invariant.0 = l.invariant.1 ∙ ap (λ es. l.invariant.0 ++ es) c.in-None.ensures.steps.0 ∙ append-nil l.invariant.0 in
    subst (λ es. MembersReadBack g.P.LeafForm.reading es (members_view l.members.entries)) (sym all)
    (printed-reads_back g.P.PrintedForm.printing g.P.LeafForm.reading l.invariant.0 l.members.entries l.invariant.2)

pub printed-to_value-requires : goal.printed-to_value-requires
printed-to_value-requires g t c κs within =
    let l = c.loop-key in
    let done = l.invariant.0 in
    let e : Key × Rows g.row.L.Denot = (c.in-Some.key.now, c.in-Some.child.now) in
    let left = c.next.new.self in
    let all : c.args.children.now.entries ≡ done ++ e ∷ left = l.invariant.1 ∙ ap (λ es. done ++ es) c.in-Some.ensures.steps in
    (omega (arith, c.decreases, tallest-middle done e left, ap tallest all), within)

pub printed-returns-in_err-insert-clause-json : goal.printed-returns-in_err-insert-clause-json
printed-returns-in_err-insert-clause-json g t c = grind (arith, common_steps)

pub printed-returns-in_err-insert-clause-reads_back : goal.printed-returns-in_err-insert-clause-reads_back
printed-returns-in_err-insert-clause-reads_back g t c = grind (arith, common_steps)

pub printed-loop-key-preserved-derived : goal.printed-loop-key-preserved-derived
printed-loop-key-preserved-derived g t c = grind (arith, common_steps)

pub printed-returns-in_err-name-clause-json : goal.printed-returns-in_err-name-clause-json
printed-returns-in_err-name-clause-json g t c = grind (arith, common_steps)

pub printed-loop-key-init-derived : goal.printed-loop-key-init-derived
printed-loop-key-init-derived g t c = grind (arith, common_steps)

pub printed-returns-in_err-to_value-clause-json : goal.printed-returns-in_err-to_value-clause-json
printed-returns-in_err-to_value-clause-json g t c = grind (arith, common_steps)

pub printed-returns-in_err-name-clause-reads_back : goal.printed-returns-in_err-name-clause-reads_back
printed-returns-in_err-name-clause-reads_back g t c = grind (arith, common_steps)

pub printed-returns-in_err-to_value-clause-reads_back : goal.printed-returns-in_err-to_value-clause-reads_back
printed-returns-in_err-to_value-clause-reads_back g t c = grind (arith, common_steps)
