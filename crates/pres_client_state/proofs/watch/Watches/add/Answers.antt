use Rattle.std.proofs.Common.{◌∙◌, ap}
use Rattle.pres_tree.specs.Paths.{path_cmp}
use Rattle.pres_client_state.specs.Watches.{with_watch, fresh}
use Rattle.pres_client_state.proofs.Maps.{put_entry}
use Rattle.pres_client_state.proofs.watch.Watches.add.Goals as goal

pub returns-clause-ok : goal.returns-clause-ok
returns-clause-ok c =
    c.in_ok-insert.ensures.entries
    ∙ put_entry path_cmp c.args.path (fresh c.args.request) c.self.inside.by_path.entries
    ∙ ap (with_watch c.args.path (fresh c.args.request)) c.self.view_is
