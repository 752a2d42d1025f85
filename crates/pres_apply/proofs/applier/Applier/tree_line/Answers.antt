use Rattle.std.proofs.Common.{◌≡◌, ◌++◌, codes, ap, ◌∙◌}
use Rattle.pres_apply.specs.Replies.{ApplyState, value_text}
use Rattle.pres_apply.proofs.Steps.{joined}
use Rattle.pres_apply.proofs.applier.Applier.tree_line.Goals as goal

pub returns-clause-text : goal.returns-clause-text
returns-clause-text c =
    let tree = c.args.self.now.log.tree in
    let seen : c.tree.result.now ≡ tree = c.tree.ensures ∙ ap (λ (s : ApplyState). s.log.tree) c.self.view_is in
    joined c.args.out.now.items c.extend_from_slice.new.self.items c.print.new.out.items c.extend_from_slice-2.new.self.items
    (codes "tree ") (value_text tree) (codes "\n")
    c.in_ok-extend_from_slice.ensures.items
    (c.in_ok-print.ensures.ok ∙ ap (λ t. c.extend_from_slice.new.self.items ++ value_text t) seen)
    c.in_ok-extend_from_slice-2.ensures.items
