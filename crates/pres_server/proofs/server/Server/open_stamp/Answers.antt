use Rattle.std.proofs.Common.{◌∙◌, ap}
use Rattle.pres_server.specs.Sums.{open_stamp_in}
use Rattle.pres_server.specs.SumStates.{SumState}
use Rattle.pres_server.proofs.SumServers.{open_stamp_is}
use Rattle.pres_server.proofs.server.Server.open_stamp.Goals as goal

pub returns : goal.returns
returns c =
    let inside = c.self.inside in
    c.open_stamp.ensures ∙ open_stamp_is inside.batches inside.moment inside.number inside.index c.args.client.now
    ∙ ap (λ (x : SumState). open_stamp_in c.args.client.now x.sum) c.self.view_is
