use Rattle.std.proofs.Common.{◌∙◌, ap}
use Rattle.pres_tree.specs.Paths.{path_cmp}
use Rattle.pres_client_state.specs.Watches.{watch_of}
use Rattle.pres_client_state.proofs.Maps.{find_at}
use Rattle.pres_client_state.proofs.watch.Watches.get.Goals as goal

pub returns : goal.returns
returns c = c.get.ensures.value ∙ find_at path_cmp c.args.path.now c.self.inside.by_path.entries ∙ ap (watch_of c.args.path.now) c.self.view_is
