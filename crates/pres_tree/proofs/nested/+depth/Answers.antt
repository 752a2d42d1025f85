use Rattle.std.proofs.Common.{◌≡◌, [], ◌∷◌, ◌++◌, sym, ap, ◌∙◌, append_assoc, arith}
use Rattle.pres_tree.specs.Keys.{Key}
use Rattle.pres_tree.specs.Rows.{Rows, height, depth_of}
use Rattle.pres_tree.specs.Layer.{child_rows, deepest_of}
use Rattle.pres_tree.specs.Falls.{height-sorted_by}
use Rattle.pres_tree.proofs.Depths.{depth-object, depth-other, depth-small}
use Rattle.pres_tree.proofs.Nodes.{at_object, tallest, tallest-le-height, tallest-middle}
use Rattle.pres_tree.proofs.Values.{view_value}
use Rattle.pres_tree.proofs.nested.+depth.Goals as goal

pub Nested::depth-deepest-requires : goal.Nested::depth-deepest-requires
Nested::depth-deepest-requires g t c κs within =
    let at = at_object {n = c.self.inside.node} c.in-Object.children c.self.invariant c.self.view_is c.in-Object.is in
    (omega (arith, c.decreases, tallest-le-height c.in-Object.children.entries at.children, height-sorted_by (child_rows c.in-Object.children.entries), ap height at.is), within)

pub Nested::depth-returns-in-Object-clause-depth :
    goal.Nested::depth-returns-in-Object-clause-depth
Nested::depth-returns-in-Object-clause-depth g t c =
    let at = at_object {n = c.self.inside.node} c.in-Object.children c.self.invariant c.self.view_is c.in-Object.is in
    c.deepest.ensures ∙ sym (depth-object c.in-Object.children.entries at.children) ∙ ap depth_of at.is

pub Nested::depth-returns-in-Object-clause-value :
    goal.Nested::depth-returns-in-Object-clause-value
Nested::depth-returns-in-Object-clause-value g t c = view_value c.self.inside.node _ c.self.invariant c.self.view_is

pub Nested::depth-returns-in_default : goal.Nested::depth-returns-in_default
Nested::depth-returns-in_default g t c = record {
  depth = depth-other c.self.inside.node _ c.self.view_is c.in_default.not-Object;
  value = view_value c.self.inside.node _ c.self.invariant c.self.view_is;
}

pub deepest-loop-child-init : goal.deepest-loop-child-init
deepest-loop-child-init g t c =
    let same = c.into_iter-child-iterator.ensures.into_iter_gives ∙ c.iter-child-items.ensures.rest in
    ([], sym same, omega (arith, ap deepest_of same))

pub deepest-overflow_add-depth : goal.deepest-overflow_add-depth
deepest-overflow_add-depth g t c = omega (arith, c.depth-depth.ensures.depth, depth-small c.in-Some.child.now c.depth-depth.ensures.value)

pub deepest-loop-child-preserved-then-depth-deepest : goal.deepest-loop-child-preserved-then-depth-deepest
deepest-loop-child-preserved-then-depth-deepest g t c =
    let l = c.loop-child in
    let done = l.invariant.0 in
    let e : Key × Rows g.row.L.Denot = (c.in-Some.field-0-0.now, c.in-Some.child.now) in
    let left = c.next.new.self in (
      done ++ e ∷ [],
      l.invariant.1 ∙ ap (λ es. done ++ es) c.in-Some.ensures.steps ∙ sym (append_assoc done (e ∷ []) left),
      omega (arith, l.invariant.2, ap deepest_of c.in-Some.ensures.steps, c.depth-depth.ensures.depth),
    )

pub deepest-loop-child-preserved : goal.deepest-loop-child-preserved
deepest-loop-child-preserved g t c =
    let l = c.loop-child in
    let done = l.invariant.0 in
    let e : Key × Rows g.row.L.Denot = (c.in-Some.field-0-0.now, c.in-Some.child.now) in
    let left = c.next.new.self in (
      done ++ e ∷ [],
      l.invariant.1 ∙ ap (λ es. done ++ es) c.in-Some.ensures.steps ∙ sym (append_assoc done (e ∷ []) left),
      omega (arith, l.invariant.2, ap deepest_of c.in-Some.ensures.steps, c.depth-depth.ensures.depth),
    )

pub deepest-depth-depth-requires : goal.deepest-depth-depth-requires
deepest-depth-depth-requires g t c κs within =
    let l = c.loop-child in
    let done = l.invariant.0 in
    let e : Key × Rows g.row.L.Denot = (c.in-Some.field-0-0.now, c.in-Some.child.now) in
    let left = c.next.new.self in
    let all : c.args.children.now.entries ≡ done ++ e ∷ left = l.invariant.1 ∙ ap (λ es. done ++ es) c.in-Some.ensures.steps in
    (omega (arith, c.decreases, tallest-middle done e left, ap tallest all), within)
