use Rattle.std.proofs.Common.{◌∙◌, ap}
use Rattle.pres_server.specs.Sums.{is_open_in}
use Rattle.pres_server.specs.SumStates.{SumState}
use Rattle.pres_server.proofs.SumServers.{open_is}
use Rattle.pres_server.proofs.server.Server.is_open.Goals as goal

pub returns : goal.returns
returns c =
    let inside = c.self.inside in
    c.is_live.ensures ∙ open_is inside.batches inside.moment inside.number inside.index c.args.session.now
    ∙ ap (λ (x : SumState). is_open_in c.args.session.now x.sum) c.self.view_is
