use Rattle.std.proofs.Common.{◌∙◌, ap}
use Rattle.std.specs.Ordering.{nat_cmp}
use Rattle.pres_client_state.specs.Asks.{with_ask}
use Rattle.pres_client_state.proofs.Maps.{put_entry}
use Rattle.pres_client_state.proofs.ask.Asks.add.Goals as goal

pub returns-clause-ok : goal.returns-clause-ok
returns-clause-ok c =
    c.in_ok-insert.ensures.entries
    ∙ put_entry nat_cmp c.args.request c.args.ask c.self.inside.by_request.entries
    ∙ ap (with_ask c.args.request c.args.ask) c.self.view_is
