use Rattle.std.proofs.Common.{[], refl}
use Rattle.pres_tree.proofs.ChangedOn.{child_is}
use Rattle.pres_tree.proofs.Nodes.{at_object, at_other, value_at_absent, view_order}
use Rattle.pres_tree.proofs.change_on.child_at.Goals as goal

pub returns-in-Object : goal.returns-in-Object
returns-in-Object g c =
    let at = at_object {n = c.held.inside.node} c.in-Object.children c.held.invariant c.held.view_is c.in-Object.is in
    child_is (λ r. r.now) c.get.result c.args.key.now c.args.held.now c.in-Object.children.entries at.has at.children at.order c.get.ensures.value

pub returns-in_default : goal.returns-in_default
returns-in_default g c =
    value_at_absent c.args.key.now [] c.args.held.now [] (at_other c.held.inside.node _ c.held.view_is c.in_default.not-Object) refl (view_order c.held.inside.node _ c.held.view_is)
