use Rattle.std.proofs.Common.{◌∙◌, ap}
use Rattle.pres_tree.specs.Paths.{path_cmp, same_path}
use Rattle.pres_client_state.specs.Watches.{without_watch}
use Rattle.pres_tree.specs.Falls.{path_total}
use Rattle.pres_tree.proofs.PathOrder.{same_by_cmp}
use Rattle.pres_client_state.proofs.Maps.{without_entry}
use Rattle.pres_client_state.proofs.watch.Watches.remove.Goals as goal

pub returns : goal.returns
returns c =
    c.remove.ensures.entries
    ∙ without_entry path_cmp path_total same_path same_by_cmp c.args.path.now c.self.inside.by_path.entries c.self.invariant
    ∙ ap (without_watch c.args.path.now) c.self.view_is
