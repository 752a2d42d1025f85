use Rattle.std.proofs.Common.{◌≡◌, [], ◌∷◌, ◌++◌, None, refl, sym, ap, ◌∙◌, subst}
use Rattle.std.specs.Option.{option_or}
use Rattle.std.specs.Prelude.{string_bytes}
use Rattle.std.specs.Fmt.{decimal}
use Rattle.std.proofs.Common.{is_none, true, inl, inr, arith, suc, drop, ◌+◌, ◌<◌, ◌^◌, Some}
use Rattle.std.proofs.Math.Seq.{drop-cons}
use Rattle.std.proofs.lemmas.List.{drop_all}
use Rattle.serde_json.specs.Data.{item}
use Rattle.pres_tree.specs.Keys.{key_fault, is_key}
use Rattle.pres_tree.specs.Paths.{path_cmp, sorted_by}
use Rattle.std.specs.Map.{keys_of}
use Rattle.serde_json.specs.View.{view, items_view, members_view}
use Rattle.pres_tree.specs.Layer.{child_rows}
use Rattle.pres_tree.specs.Rows.{placed}
use Rattle.pres_tree.specs.JsonReading.{items_rows, items_fault, members_rows, members_fault, Shallow}
use Rattle.pres_tree.proofs.Found.{null_is_empty}
use Rattle.pres_tree.proofs.Items.{ItemsRead, items_start, items_null, items_insert, items_fail, items_end}
use Rattle.pres_tree.proofs.Shallow.{Kid, Kids, Kids-children, Kids-insert, Shallow-leaf, Shallow-result, Shallow-object, IsValue-object, items-root, members-root}
use Rattle.pres_tree.proofs.Reading.{Rise, decimal_key, names, names-rise, insert_end, rise_first, rise_insert, rise_without, rows_insert}
use Rattle.pres_tree.proofs.read.+read.Goals as goal
use Rattle.pres_tree.proofs.read.+read.Goals.{read_items-in-Ok+then-not-is_empty+in_ok-insert-in-Ok, read_items-in-Ok+else-not-is_empty, read_items-in-Err+in_default}
use Rattle.std.proofs.lemmas.Grind.{common_steps}

pub read_at-returns-then-is_leaf-clause-shallow : goal.read_at-returns-then-is_leaf-clause-shallow
read_at-returns-then-is_leaf-clause-shallow g t c = subst (Shallow c.args.left) (sym c.scalar.ensures) (Shallow-leaf c.args.left c.in_ok-read.field-0 (omega arith))

pub read_items-loop-item-init : goal.read_items-loop-item-init
read_items-loop-item-init g t c = (refl, items_start g.F.LeafForm.reading c.args.left (items_view c.deref-item-items.result.now) c.new-children.result.entries c.new-children.ensures.empty c.new-children.ensures.ordered)

pub read_items-loop-item-preserved : goal.read_items-loop-item-preserved
read_items-loop-item-preserved g t c =
    let l = c.loop-item in
    let f = g.F.LeafForm.reading in
    let i = l.item-index in
    let items = c.deref-item-items.result.now in
    let es = l.children.entries in
    let x = c.item-item.result in
    let d = view x in
    let rest = items_view (drop (i + 1) items) in
    let more : suc i ≡ i + 1 = omega arith in
    let key : c.in_ok-key.key ≡ decimal i = c.in_ok-key.ensures ∙ ap decimal l.invariant.0 in
    let small : i < 2 ^ 64 = subst (λ n. n < 2 ^ 64) l.invariant.0 l.auto.index-fits.fits in
    let step : drop i items ≡ x ∷ drop (i + 1) items = drop-cons items i x c.loop-item-test.true ∙ (λ k. sym c.item-item.is k ∷ drop (more k) items) in
    let walked : ItemsRead f c.args.left i es l.first (items_view items) (item d rest) = subst (λ vs. ItemsRead f c.args.left i es l.first (items_view items) (items_view vs)) step l.invariant.1 in
    let now : ItemsRead f c.args.left (i + 1) c.match-read_at.children.entries c.match-read_at.first (items_view items) rest =
    elim c.match-read_at.branch [
      | read_items-in-Ok+then-not-is_empty+in_ok-insert-in-Ok w ↦
          let child = w.in-Ok.child in
          let here = w.in_ok-insert-in-Ok.ensures in
          let kid : Kid c.args.left c.in_ok-key.key child = record {
            key = subst (λ k. is_key k ≡ true) (sym key) (decimal_key i small);
            some = sym w.if-not-is_empty.ensures.null;
            value = w.if-not-is_empty.ensures.value;
            shallow = w.in-Ok.ensures.shallow;
          } in
          subst (λ o. ItemsRead f c.args.left (i + 1) c.match-read_at.children.entries o (items_view items) rest) (sym w.first-is)
          (subst (λ m. ItemsRead f c.args.left (i + 1) m.entries l.first (items_view items) rest) (sym w.children-is)
          (items_insert d c.in_ok-key.key child w.in-Ok.ensures.read.0 w.in-Ok.ensures.read.1 key small kid here.entries here.updates.0 here.ordered walked))
      | read_items-in-Ok+else-not-is_empty w ↦
          subst (λ o. ItemsRead f c.args.left (i + 1) c.match-read_at.children.entries o (items_view items) rest) (sym w.first-is)
          (subst (λ m. ItemsRead f c.args.left (i + 1) m.entries l.first (items_view items) rest) (sym w.children-is)
          (items_null d w.in-Ok.ensures.read.0 (sym w.in-Ok.ensures.read.1 ∙ null_is_empty w.in-Ok.child (sym w.if-not-is_empty.ensures.null)) walked))
      | read_items-in-Err+in_default w ↦
          subst (λ o. ItemsRead f c.args.left (i + 1) c.match-read_at.children.entries o (items_view items) rest) (sym w.first-is)
          (subst (λ m. ItemsRead f c.args.left (i + 1) m.entries (Some w.earlier.result) (items_view items) rest) (sym w.children-is)
          (items_fail d c.in_ok-key.key w.in-Err.fault w.earlier.result (elim w.in-Err.ensures.read [ inl h ↦ absurd (w.in_default.not-Memory h) | inr h ↦ h ]) key w.earlier.ensures walked))
    ] in
    (ap (λ n. n + 1) l.invariant.0, now)

pub read_items-of_children-requires-clause-some : goal.read_items-of_children-requires-clause-some
read_items-of_children-requires-clause-some g t c = Kids-children c.args.left c.loop-item.children.entries c.loop-item.invariant.1.kids

pub read_items-of_children-requires-clause-value : goal.read_items-of_children-requires-clause-value
read_items-of_children-requires-clause-value g t c =
    let l = c.loop-item in
    IsValue-object c.args.left l.children.entries l.invariant.1.kids l.invariant.1.order c.requires

pub read_items-returns-in-None-clause-read : goal.read_items-returns-in-None-clause-read
read_items-returns-in-None-clause-read g t c =
    let l = c.loop-item in
    let f = g.F.LeafForm.reading in
    let items = c.deref-item-items.result.now in
    let done : drop l.item-index items ≡ [] = drop_all l.item-index items c.loop-item-test.false in
    let value = c.deref-item-items.ensures.value in
    let read = items_end c.in-None.is (subst (λ vs. ItemsRead f c.args.left l.item-index l.children.entries l.first (items_view items) (items_view vs)) done l.invariant.1) in (
      ap (λ vs. items_fault f c.args.left 0 (items_view vs)) (sym value) ∙ read.0,
      c.of_children.ensures ∙ read.1 ∙ ap (λ vs. sorted_by path_cmp (items_rows f 0 (items_view vs))) value,
    )

pub read_items-returns-in-None-clause-shallow : goal.read_items-returns-in-None-clause-shallow
read_items-returns-in-None-clause-shallow g t c =
    let l = c.loop-item in
    subst (Shallow (c.args.left + 1)) (sym c.of_children.ensures) (Shallow-object c.args.left l.children.entries l.invariant.1.kids l.invariant.1.order)

pub read_at-returns-in-Array-clause-shallow : goal.read_at-returns-in-Array-clause-shallow
read_at-returns-in-Array-clause-shallow g t c =
    let f = g.F.LeafForm.reading in
    let ds = items_view c.in-Array.items.items in
    Shallow-result _ _ c.args.left c.saturating_sub.result (items_rows f 0 ds) c.read_items.result c.saturating_sub.ensures (items-root f 0 ds) c.read_items.ensures.read c.read_items.ensures.shallow

pub read_at-returns-in-Object-clause-shallow : goal.read_at-returns-in-Object-clause-shallow
read_at-returns-in-Object-clause-shallow g t c =
    let f = g.F.LeafForm.reading in
    let ms = members_view c.in-Object.members.entries in
    Shallow-result _ _ c.args.left c.saturating_sub-in-Object.result (members_rows f ms) c.read_members.result c.saturating_sub-in-Object.ensures (members-root f ms) c.read_members.ensures.read c.read_members.ensures.shallow

pub read_members-loop-name-init : goal.read_members-loop-name-init
read_members-loop-name-init g t c =
    let f = g.F.LeafForm.reading in
    let all = c.into_iter-name-iterator.result in
    let same = c.into_iter-name-iterator.ensures.into_iter_gives ∙ c.iter-name-items.ensures.rest in
    let none = c.new-children.ensures.empty in (
      ap (λ ms. members_fault f c.args.left (members_view ms)) (sym same),
      ap (λ ms. members_rows f (members_view ms)) (sym same) ∙ (λ i. child_rows (sym none i) ++ members_rows f (members_view all)),
      subst (Kids c.args.left) (sym none) tt,
      subst (λ es. Rise (keys_of es ++ names all)) (sym none) (subst (λ ms. Rise (names ms)) (sym same) (names-rise c.args.members.now.entries c.iter-name-items.ensures.ordered)),
    )

pub read_members-loop-name-preserved-then-not-is_empty : goal.read_members-loop-name-preserved-then-not-is_empty
read_members-loop-name-preserved-then-not-is_empty g t c =
    let l = c.loop-name in
    let f = g.F.LeafForm.reading in
    let rest = c.next.new.self in
    let es = l.children.entries in
    let steps = c.in-Some.ensures.steps in
    let k = string_bytes c.in-Some.name.now in
    let d = view c.in-Some.member.now in
    let key = c.in_ok-key.key in
    let child = c.in_ok-child.child in
    let read = c.in_ok-child.ensures.read in
    let same : key ≡ k = c.in_ok-key.ensures.key.0 ∙ c.as_str.ensures.value in
    let good : key_fault k ≡ None = ap key_fault (sym c.as_str.ensures.value) ∙ c.in_ok-key.ensures.key.1 in
    let kid : Kid c.args.left key child = record {
      key = ap is_key same ∙ ap is_none good;
      some = sym c.if-not-is_empty.ensures.null;
      value = c.if-not-is_empty.ensures.value;
      shallow = c.in_ok-child.ensures.shallow;
    } in
    let rise : Rise (keys_of es ++ key ∷ names rest) = subst (λ q. Rise (keys_of es ++ q ∷ names rest)) (sym same) (subst (λ ms. Rise (keys_of es ++ names ms)) steps l.invariant.3) in
    let inserted = c.in_ok-insert.ensures.entries ∙ insert_end es key child (names rest) rise in (
      l.invariant.0 ∙ ap (λ ms. members_fault f c.args.left (members_view ms)) steps
          ∙ (λ i. option_or (good i) (option_or (read.0 i) (members_fault f c.args.left (members_view rest)))),
      l.invariant.1 ∙ ap (λ ms. child_rows es ++ members_rows f (members_view ms)) steps
          ∙ (λ i. child_rows es ++ (placed (sym same i ∷ []) (sym read.1 i) ++ members_rows f (members_view rest)))
          ∙ rows_insert es key child (members_rows f (members_view rest))
          ∙ ap (λ fs. child_rows fs ++ members_rows f (members_view rest)) (sym inserted),
      subst (Kids c.args.left) (sym c.in_ok-insert.ensures.entries) (Kids-insert c.args.left key child es l.invariant.2 kid),
      subst (λ fs. Rise (keys_of fs ++ names rest)) (sym inserted) (rise_insert es key child (names rest) rise),
    )

pub read_members-loop-name-preserved : goal.read_members-loop-name-preserved
read_members-loop-name-preserved g t c =
    let l = c.loop-name in
    let f = g.F.LeafForm.reading in
    let rest = c.next.new.self in
    let es = l.children.entries in
    let steps = c.in-Some.ensures.steps in
    let k = string_bytes c.in-Some.name.now in
    let read = c.in_ok-child.ensures.read in
    let good : key_fault k ≡ None = ap key_fault (sym c.as_str.ensures.value) ∙ c.in_ok-key.ensures.key.1 in
    let none = sym read.1 ∙ null_is_empty c.in_ok-child.child (sym c.if-not-is_empty.ensures.null) in (
      l.invariant.0 ∙ ap (λ ms. members_fault f c.args.left (members_view ms)) steps
          ∙ (λ i. option_or (good i) (option_or (read.0 i) (members_fault f c.args.left (members_view rest)))),
      l.invariant.1 ∙ ap (λ ms. child_rows es ++ members_rows f (members_view ms)) steps
          ∙ (λ i. child_rows es ++ (placed (k ∷ []) (none i) ++ members_rows f (members_view rest))),
      l.invariant.2,
      rise_without (keys_of es) k (names rest) (subst (λ ms. Rise (keys_of es ++ names ms)) steps l.invariant.3),
    )

pub read_members-of_children-requires-clause-some : goal.read_members-of_children-requires-clause-some
read_members-of_children-requires-clause-some g t c = Kids-children c.args.left c.loop-name.children.entries c.loop-name.invariant.2

pub read_members-of_children-requires-clause-value : goal.read_members-of_children-requires-clause-value
read_members-of_children-requires-clause-value g t c =
    let l = c.loop-name in
    IsValue-object c.args.left l.children.entries l.invariant.2 (rise_first (keys_of l.children.entries) (names l.name-iterator) l.invariant.3) c.requires

pub read_members-returns-clause-shallow : goal.read_members-returns-clause-shallow
read_members-returns-clause-shallow g t c =
    let l = c.loop-name in
    subst (Shallow (c.args.left + 1)) (sym c.of_children.ensures) (Shallow-object c.args.left l.children.entries l.invariant.2 (rise_first (keys_of l.children.entries) (names l.name-iterator) l.invariant.3))

pub read_members-loop-name-preserved-derived : goal.read_members-loop-name-preserved-derived
read_members-loop-name-preserved-derived g t c = grind (arith, common_steps)

pub read_members-loop-name-init-derived : goal.read_members-loop-name-init-derived
read_members-loop-name-init-derived g t c = grind (arith, common_steps)

pub read_members-loop-name-preserved-then-not-is_empty-derived : goal.read_members-loop-name-preserved-then-not-is_empty-derived
read_members-loop-name-preserved-then-not-is_empty-derived g t c = grind (arith, common_steps)

pub read_members-parse-requires-text-text : goal.read_members-parse-requires-text-text
read_members-parse-requires-text-text g t c = grind (arith, common_steps)

pub read_members-of_children-requires-clause-order : goal.read_members-of_children-requires-clause-order
read_members-of_children-requires-clause-order g t c = grind (arith, common_steps)

pub read_items-returns-in-Memory-clause-shallow : goal.read_items-returns-in-Memory-clause-shallow
read_items-returns-in-Memory-clause-shallow g t c = grind (arith, common_steps)

pub read_members-returns-in_err-insert-clause-shallow : goal.read_members-returns-in_err-insert-clause-shallow
read_members-returns-in_err-insert-clause-shallow g t c = grind (arith, common_steps)

pub read_items-returns-in-Some-clause-shallow : goal.read_items-returns-in-Some-clause-shallow
read_items-returns-in-Some-clause-shallow g t c = grind (arith, common_steps)

pub read_members-returns-in_err-key-clause-shallow : goal.read_members-returns-in_err-key-clause-shallow
read_members-returns-in_err-key-clause-shallow g t c = grind (arith, common_steps)

pub read_items-returns-in-Memory-clause-read : goal.read_items-returns-in-Memory-clause-read
read_items-returns-in-Memory-clause-read g t c = grind (arith, common_steps)

pub read_items-returns-in-Some-clause-read : goal.read_items-returns-in-Some-clause-read
read_items-returns-in-Some-clause-read g t c = grind (arith, common_steps)

pub read_members-returns-in_err-insert-clause-read : goal.read_members-returns-in_err-insert-clause-read
read_members-returns-in_err-insert-clause-read g t c = grind (arith, common_steps)

pub read_members-returns-in_err-key-clause-read : goal.read_members-returns-in_err-key-clause-read
read_members-returns-in_err-key-clause-read g t c = grind (arith, common_steps)

pub read_members-returns-in_err-child-clause-read : goal.read_members-returns-in_err-child-clause-read
read_members-returns-in_err-child-clause-read g t c = grind (arith, common_steps)

pub read_members-returns-clause-read : goal.read_members-returns-clause-read
read_members-returns-clause-read g t c = grind (arith, common_steps)

pub read_members-same-key : goal.read_members-same-key
read_members-same-key g t c = grind (arith, common_steps)

pub read_items-returns-in_err-insert-in-Ok-clause-read : goal.read_items-returns-in_err-insert-in-Ok-clause-read
read_items-returns-in_err-insert-in-Ok-clause-read g t c = grind (arith, common_steps)

pub read_members-returns-in_err-child-clause-shallow : goal.read_members-returns-in_err-child-clause-shallow
read_members-returns-in_err-child-clause-shallow g t c = grind (arith, common_steps)

pub read_items-loop-item-smaller : goal.read_items-loop-item-smaller
read_items-loop-item-smaller g t c = grind (arith, common_steps)
