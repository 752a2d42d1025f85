use Rattle.std.proofs.Common.{◌≡◌, [], ◌∷◌, ◌++◌, sym, ap, ◌∙◌, append_assoc, arith}
use Rattle.pres_tree.specs.Keys.{Key}
use Rattle.pres_tree.specs.Rows.{Rows, height, value_at}
use Rattle.pres_tree.specs.Layer.{child_rows}
use Rattle.pres_tree.specs.Falls.{height-sorted_by}
use Rattle.pres_tree.proofs.ChangedOn.{object_alone, children_on-append}
use Rattle.pres_tree.proofs.Changed.{children_with-append}
use Rattle.pres_tree.proofs.Nodes.{at_object, tallest, tallest-le-height, tallest-middle}
use Rattle.pres_tree.proofs.+looks.Goals as goal

pub nested::Nested::looks-one_looks-requires : goal.nested::Nested::looks-one_looks-requires
nested::Nested::looks-one_looks-requires g t c κs within =
    let at = at_object {n = c.self.inside.node} c.in-Object.children c.self.invariant c.self.view_is c.in-Object.is in
    (omega (arith, c.decreases, tallest-le-height c.in-Object.children.entries at.children, height-sorted_by (child_rows c.in-Object.children.entries), ap height at.is), within)

pub nested::Nested::looks-returns-in-Object : goal.nested::Nested::looks-returns-in-Object
nested::Nested::looks-returns-in-Object g t c unread held =
    let at = at_object {n = c.self.inside.node} c.in-Object.children c.self.invariant c.self.view_is c.in-Object.is in
    object_alone (g.C.ChangeOn.makes_on c.args.how.now) (g.C.Change.makes c.args.how.now) held c.in-Object.children.entries c.args.self.now (c.one_looks.ensures unread held) at.is

pub change_on::one_looks-loop-child-preserved : goal.change_on::one_looks-loop-child-preserved
change_on::one_looks-loop-child-preserved g t c =
    let l = c.loop-child in
    let f = g.C.ChangeOn.makes_on c.args.how.now in
    let alone = g.C.Change.makes c.args.how.now in
    let done = l.invariant.0 in
    let e : Key × Rows g.row.L.Denot = (c.in-Some.field-0-0.now, c.in-Some.child.now) in
    let left = c.next.new.self in (
      done ++ e ∷ [],
      l.invariant.1 ∙ ap (λ es. done ++ es) c.in-Some.ensures.steps ∙ sym (append_assoc done (e ∷ []) left),
      λ held. children_on-append f held done (e ∷ [])
          ∙ (λ i. l.invariant.2 held i ++ (e.0, c.looks.ensures c.if-looks.false (value_at (e.0 ∷ []) held) i) ∷ [])
          ∙ sym (children_with-append alone done (e ∷ [])),
    )

pub change_on::one_looks-looks-requires : goal.change_on::one_looks-looks-requires
change_on::one_looks-looks-requires g t c κs within =
    let l = c.loop-child in
    let done = l.invariant.0 in
    let e : Key × Rows g.row.L.Denot = (c.in-Some.field-0-0.now, c.in-Some.child.now) in
    let left = c.next.new.self in
    let all : c.args.children.now.entries ≡ done ++ e ∷ left = l.invariant.1 ∙ ap (λ es. done ++ es) c.in-Some.ensures.steps in
    (omega (arith, c.decreases, tallest-middle done e left, ap tallest all), within)
