use Rattle.std.proofs.Common.{◌∙◌, ap, sym, is_some}
use Rattle.pres_server.specs.ServerStates.{heard_last}
use Rattle.pres_server.specs.Sums.{has_open_in}
use Rattle.pres_server.specs.SumStates.{SumState}
use Rattle.pres_server.proofs.Heard.{heard_tells}
use Rattle.pres_server.proofs.SumServers.{has_open_is}
use Rattle.pres_server.proofs.server.Server.heard.Goals as goal

pub returns-clause-heard : goal.returns-clause-heard
returns-clause-heard c = c.heard.ensures ∙ sym (heard_tells c.self.inside.index c.args.client.now) ∙ ap (λ (x : SumState). heard_last x.heard c.args.client.now) c.self.view_is

pub returns-clause-open : goal.returns-clause-open
returns-clause-open c =
    let inside = c.self.inside in
    ap is_some c.heard.ensures ∙ has_open_is inside.batches inside.moment inside.number inside.index c.args.client.now
    ∙ ap (λ (x : SumState). has_open_in c.args.client.now x.sum) c.self.view_is
