use Rattle.std.proofs.Common.{◌≡◌, ◌∷◌, ◌++◌, [], refl, sym, ap, subst, ◌∙◌, append_assoc, append-nil, arith}
use Rattle.std.specs.Prelude.{option_map}
use Rattle.json.specs.Token.{Token}
use Rattle.serde_json.specs.Data.{object}
use Rattle.pres_tree.specs.Rows.{height}
use Rattle.pres_tree.specs.Layer.{child_rows, rows_of_node}
use Rattle.pres_tree.specs.Falls.{height-sorted_by}
use Rattle.pres_tree.specs.JsonPrinting.{json_of, members_of, ReadsBack, MembersReadBack, IsPlain, tokens_of, tokens_of_members}
use Rattle.pres_tree.proofs.Nodes.{at_object, tallest, tallest-le-height, tallest-middle, tallest-rest}
use Rattle.pres_tree.proofs.Printing.{json-object, leaf_written, on_ok, on_any, object_read, written-none, written-more, written-plain, written-reads_back}
use Rattle.pres_tree.proofs.Plain.{ArePlain, plain_members}
use Rattle.pres_tree.proofs.Written.{object_written}
use Rattle.pres_tree.proofs.print.+write.Goals as goal
use Rattle.std.proofs.lemmas.Grind.{common_steps}

pub write_value-write_members-requires :
    goal.write_value-write_members-requires
write_value-write_members-requires g t c κs within =
    let at = at_object {n = c.tree.inside.node} c.in-Object.children c.tree.invariant c.tree.view_is c.in-Object.is in
    (omega (arith, c.decreases, tallest-le-height c.in-Object.children.entries at.children, height-sorted_by (child_rows c.in-Object.children.entries), ap height at.is), within)

pub write_value-returns-in_ok-begin_object-in-Object-clause-ok :
    goal.write_value-returns-in_ok-begin_object-in-Object-clause-ok
write_value-returns-in_ok-begin_object-in-Object-clause-ok g t c =
    let at = at_object {n = c.tree.inside.node} c.in-Object.children c.tree.invariant c.tree.view_is c.in-Object.is in
    let ms = members_of g.P.PrintedForm.printing c.in-Object.children.entries in
    let is : object ms ≡ json_of g.P.PrintedForm.printing c.args.tree.now =
    sym (json-object g.P.PrintedForm.printing c.in-Object.children.entries at.some at.children at.ordered) ∙ ap (json_of g.P.PrintedForm.printing) at.is in
    object_written c.write_members.result c.write_members.new.out.tokens c.begin_object.new.self.tokens c.args.out.now.tokens ms (json_of g.P.PrintedForm.printing c.args.tree.now)
    c.in_ok-begin_object-in-Object.ensures.ok is c.write_members.ensures.ok

pub write_members-write_value-requires : goal.write_members-write_value-requires
write_members-write_value-requires g t c κs within =
    (omega (arith, c.decreases, c.loop-key.invariant.0, ap tallest c.in-Some.ensures.steps, tallest-middle [] (c.in-Some.key.now, c.in-Some.child.now) c.next.new.self), within)

pub write_members-loop-key-preserved : goal.write_members-loop-key-preserved
write_members-loop-key-preserved g t c =
    let f = g.P.PrintedForm.printing in
    let key = c.in-Some.key.now in
    let child = c.in-Some.child.now in
    let left = c.next.new.self in
    let rest = tokens_of_members (members_of f left) in
    let out = c.loop-key.out.tokens in
    let put : c.write_value.new.out.tokens ≡ (out ++ Token.key key ∷ []) ++ tokens_of (json_of f child) =
    c.in_ok-write_value.ensures.ok ∙ ap (λ ts. ts ++ tokens_of (json_of f child)) (c.in_ok-key.ensures.ok ∙ ap (λ k. out ++ Token.key k ∷ []) c.text.ensures.text) in (
      omega (arith, c.loop-key.invariant.0, ap tallest c.in-Some.ensures.steps, tallest-rest (key, child) left),
      ap (λ ts. ts ++ rest) put
          ∙ append_assoc (out ++ Token.key key ∷ []) (tokens_of (json_of f child)) rest
          ∙ append_assoc out (Token.key key ∷ []) (tokens_of (json_of f child) ++ rest)
          ∙ ap (λ es. out ++ tokens_of_members (members_of f es)) (sym c.in-Some.ensures.steps)
          ∙ c.loop-key.invariant.1,
      c.in_ok-write_value.ensures.before ∙ c.key.ensures.room.0 ∙ c.loop-key.invariant.2,
      (
        c.loop-key.invariant.3.0 ++ (key, child) ∷ [],
        c.loop-key.invariant.3.1 ∙ ap (λ es. c.loop-key.invariant.3.0 ++ es) c.in-Some.ensures.steps ∙ sym (append_assoc c.loop-key.invariant.3.0 ((key, child) ∷ []) left),
        written-more f g.P.LeafForm.reading c.loop-key.invariant.3.0 key child c.loop-key.invariant.3.2 c.text.ensures.key c.in_ok-write_value.ensures.reads_back c.in_ok-write_value.ensures.plain,
      ),
      c.loop-key.invariant.4,
    )

pub write_value-returns-in-Leaf-clause-reads_back :
    goal.write_value-returns-in-Leaf-clause-reads_back
write_value-returns-in-Leaf-clause-reads_back g t c =
    let is = sym (ap rows_of_node c.in-Leaf.is) ∙ c.tree.view_is in
    leaf_written g.P.PrintedForm.printing g.P.LeafForm.reading c.write.result c.in-Leaf.leaf c.args.tree.now is c.write.ensures.reads_back

pub write_value-returns-in_ok-begin_object-in-Object-clause-plain :
    goal.write_value-returns-in_ok-begin_object-in-Object-clause-plain
write_value-returns-in_ok-begin_object-in-Object-clause-plain g t c =
    let at = at_object {n = c.tree.inside.node} c.in-Object.children c.tree.invariant c.tree.view_is c.in-Object.is in
    let ms = members_of g.P.PrintedForm.printing c.in-Object.children.entries in
    let is : object ms ≡ json_of g.P.PrintedForm.printing c.args.tree.now =
    sym (json-object g.P.PrintedForm.printing c.in-Object.children.entries at.some at.children at.ordered) ∙ ap (json_of g.P.PrintedForm.printing) at.is in
    on_ok c.write_members.result (λ plain. subst IsPlain is (ap (option_map object) plain)) c.write_members.ensures.plain

pub write_value-returns-in_ok-begin_object-in-Object-clause-reads_back :
    goal.write_value-returns-in_ok-begin_object-in-Object-clause-reads_back
write_value-returns-in_ok-begin_object-in-Object-clause-reads_back g t c =
    let f = g.P.LeafForm.reading in
    let at = at_object {n = c.tree.inside.node} c.in-Object.children c.tree.invariant c.tree.view_is c.in-Object.is in
    let ms = members_of g.P.PrintedForm.printing c.in-Object.children.entries in
    let is : object ms ≡ json_of g.P.PrintedForm.printing c.args.tree.now =
    sym (json-object g.P.PrintedForm.printing c.in-Object.children.entries at.some at.children at.ordered) ∙ ap (json_of g.P.PrintedForm.printing) at.is in
    on_ok c.write_members.result (λ back. subst (ReadsBack f c.args.tree.now) is
    (object_read f c.in-Object.children.entries c.args.tree.now ms at.is (g.met.P.PrintedForm.object_is_branch ms back.0) back)) c.write_members.ensures.reads_back

pub write_members-returns-clause-plain : goal.write_members-returns-clause-plain
write_members-returns-clause-plain g t c =
    let l = c.loop-key in
    let all : c.args.children.now.entries ≡ l.invariant.3.0 = l.invariant.3.1 ∙ ap (λ es. l.invariant.3.0 ++ es) c.in-None.ensures.steps.0 ∙ append-nil l.invariant.3.0 in
    on_any c.end_object.result
    (plain_members g.P.PrintedForm.printing c.args.children.now.entries l.invariant.4 (subst (ArePlain g.P.PrintedForm.printing) (sym all) (written-plain g.P.PrintedForm.printing g.P.LeafForm.reading l.invariant.3.0 l.invariant.3.2)))

pub write_members-returns-clause-reads_back : goal.write_members-returns-clause-reads_back
write_members-returns-clause-reads_back g t c =
    let l = c.loop-key in
    let all : c.args.children.now.entries ≡ l.invariant.3.0 = l.invariant.3.1 ∙ ap (λ es. l.invariant.3.0 ++ es) c.in-None.ensures.steps.0 ∙ append-nil l.invariant.3.0 in
    on_any c.end_object.result
    (subst (λ es. MembersReadBack g.P.LeafForm.reading es (members_of g.P.PrintedForm.printing es)) (sym all) (written-reads_back g.P.PrintedForm.printing g.P.LeafForm.reading l.invariant.3.0 l.invariant.3.2))

pub write_members-loop-key-init : goal.write_members-loop-key-init
write_members-loop-key-init g t c =
    let same = c.into_iter-key-iterator.ensures.into_iter_gives ∙ c.iter-key-items.ensures.rest in (
      omega (arith, ap tallest same),
      ap (λ es. c.args.out.now.tokens ++ tokens_of_members (members_of g.P.PrintedForm.printing es)) same,
      refl {a = c.args.out.now.before},
      ([], sym same, written-none g.P.PrintedForm.printing g.P.LeafForm.reading),
      c.iter-key-items.ensures.ordered,
    )

pub write_members-returns-in_err-write_value-clause-ok : goal.write_members-returns-in_err-write_value-clause-ok
write_members-returns-in_err-write_value-clause-ok g t c = grind (arith, common_steps)

pub write_members-returns-in_err-key-clause-plain : goal.write_members-returns-in_err-key-clause-plain
write_members-returns-in_err-key-clause-plain g t c = grind (arith, common_steps)

pub write_members-returns-in_err-write_value-clause-plain : goal.write_members-returns-in_err-write_value-clause-plain
write_members-returns-in_err-write_value-clause-plain g t c = grind (arith, common_steps)

pub write_members-returns-clause-before : goal.write_members-returns-clause-before
write_members-returns-clause-before g t c = grind (arith, common_steps)

pub write_members-returns-in_err-key-clause-reads_back : goal.write_members-returns-in_err-key-clause-reads_back
write_members-returns-in_err-key-clause-reads_back g t c = grind (arith, common_steps)

pub write_members-returns-clause-ok : goal.write_members-returns-clause-ok
write_members-returns-clause-ok g t c = grind (arith, common_steps)

pub write_members-returns-in_err-key-clause-before : goal.write_members-returns-in_err-key-clause-before
write_members-returns-in_err-key-clause-before g t c = grind (arith, common_steps)

pub write_members-returns-in_err-key-clause-ok : goal.write_members-returns-in_err-key-clause-ok
write_members-returns-in_err-key-clause-ok g t c = grind (arith, common_steps)

pub write_members-returns-in_err-write_value-clause-before : goal.write_members-returns-in_err-write_value-clause-before
write_members-returns-in_err-write_value-clause-before g t c = grind (arith, common_steps)

pub write_members-returns-in_err-write_value-clause-reads_back : goal.write_members-returns-in_err-write_value-clause-reads_back
write_members-returns-in_err-write_value-clause-reads_back g t c = grind (arith, common_steps)
