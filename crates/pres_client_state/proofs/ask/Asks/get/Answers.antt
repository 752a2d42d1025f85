use Rattle.std.proofs.Common.{◌∙◌, ap}
use Rattle.std.specs.Ordering.{nat_cmp}
use Rattle.pres_client_state.specs.Asks.{ask_of}
use Rattle.pres_client_state.proofs.Maps.{find_at}
use Rattle.pres_client_state.proofs.ask.Asks.get.Goals as goal

pub returns : goal.returns
returns c = c.get.ensures.value ∙ find_at nat_cmp c.args.request c.self.inside.by_request.entries ∙ ap (ask_of c.args.request) c.self.view_is
