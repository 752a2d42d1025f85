use Rattle.std.proofs.Common.{[], true≢false, is_some, sym, ap, subst, ◌∙◌, arith, rules}
use Rattle.std.proofs.lemmas.Bool.{false≢true}
use Rattle.std.specs.Cmp.Lexicographic.{nat_list_cmp_total}
use Rattle.std.specs.FinMap.{nat_cmp-IsAntisymmetric, slice_cmp-IsAntisymmetric}
use Rattle.std.proofs.lemmas.Map.Lookups.{btree_map_from_get}
use Rattle.pres_tree.specs.Paths.{path_cmp, sorted_by}
use Rattle.pres_tree.specs.Rows.{height, leaf_at}
use Rattle.pres_tree.specs.Layer.{child_rows}
use Rattle.pres_tree.specs.Falls.{height-sorted_by}
use Rattle.pres_tree.proofs.Found.{HasChildren}
use Rattle.pres_tree.proofs.Nodes.{at_object, leaf_is, no_leaf, tallest, tallest-le-height, tallest-middle, tallest-rest}
use Rattle.pres_tree.proofs.SameChildren.{no_object, same_lookup}
use Rattle.pres_tree.proofs.+equal.Goals as goal
use Rattle.std.proofs.lemmas.Grind.{common_steps}

pub equal::equal_children-equal-requires : goal.equal::equal_children-equal-requires
equal::equal_children-equal-requires g t c κs within = (omega (arith, c.decreases, c.loop-key.invariant.1, ap tallest c.in-Some.ensures.steps, tallest-middle [] (c.in-Some.key.now, c.in-Some.child.now) c.next.new.self), within)

pub equal::equal_children-loop-key-preserved : goal.equal::equal_children-loop-key-preserved
equal::equal_children-loop-key-preserved g t c = (
  search rules,
  omega (arith, c.loop-key.invariant.1, ap tallest c.in-Some.ensures.steps, tallest-rest (c.in-Some.key.now, c.in-Some.child.now) c.next.new.self),
)

pub nested::Nested::equal-equal_children-requires :
    goal.nested::Nested::equal-equal_children-requires
nested::Nested::equal-equal_children-requires g t c κs within =
    let at = at_object {n = c.self.inside.node} c.in-Object.children c.self.invariant c.self.view_is c.in-Object.is in
    (omega (arith, c.decreases, tallest-le-height c.in-Object.children.entries at.children, height-sorted_by (child_rows c.in-Object.children.entries), ap height at.is), within)

pub nested::Nested::equal-returns-in_default : goal.nested::Nested::equal-returns-in_default
nested::Nested::equal-returns-in_default g t c = (
  λ h. absurd (false≢true h),
  λ e. absurd (true≢false (ap is_some (leaf_is c.self.inside.node _ c.self.view_is c.in-Leaf.is ∙ ap (λ v. leaf_at v []) e ∙ sym (no_leaf c.other.inside.node _ c.other.view_is c.in_default.not-Leaf)))),
)

pub nested::Nested::equal-returns-in-Object-node :
    goal.nested::Nested::equal-returns-in-Object-node
nested::Nested::equal-returns-in-Object-node g t c =
    let at = at_object {n = c.self.inside.node} c.in-Object.children c.self.invariant c.self.view_is c.in-Object.is in
    let other = at_object {n = c.other.inside.node} c.in-Object-node.others c.other.invariant c.other.view_is c.in-Object-node.is in
    let es = c.in-Object.children.entries in
    let fs = c.in-Object-node.others.entries in (
      λ h. sym at.is ∙ ap (λ gs. sorted_by path_cmp (child_rows gs)) (c.equal_children.ensures.0 h) ∙ other.is,
      λ e. c.equal_children.ensures.1 (btree_map_from_get nat_list_cmp_total c.in-Object.children c.in-Object-node.others at.ordered other.ordered
          (same_lookup c.args.self.now es fs at.has (subst (λ v. HasChildren v fs) (sym e) other.has) at.children other.children)
          (slice_cmp-IsAntisymmetric nat_cmp-IsAntisymmetric)),
    )

pub nested::Nested::equal-returns-in_default-node :
    goal.nested::Nested::equal-returns-in_default-node
nested::Nested::equal-returns-in_default-node g t c = (
  λ h. absurd (false≢true h),
  λ e. absurd (no_object {n = c.self.inside.node} c.other.inside.node c.args.self.now c.args.other.now c.in-Object.children c.self.invariant c.self.view_is c.other.view_is c.in-Object.is c.in_default-node.not-Object e),
)

pub nested::Nested::equal-returns-in-Leaf-node : goal.nested::Nested::equal-returns-in-Leaf-node
nested::Nested::equal-returns-in-Leaf-node g t c = grind (arith, common_steps)

pub equal::equal_children-returns : goal.equal::equal_children-returns
equal::equal_children-returns g t c = grind (arith, common_steps)

pub equal::equal_children-returns-in_default : goal.equal::equal_children-returns-in_default
equal::equal_children-returns-in_default g t c = grind (arith, common_steps)

pub nested::Nested::equal-returns-in-Empty : goal.nested::Nested::equal-returns-in-Empty
nested::Nested::equal-returns-in-Empty g t c = grind (arith, common_steps)
