use Rattle.std.proofs.Common.{◌∙◌, ap}
use Rattle.pres_server.specs.Sums.{accepted_in}
use Rattle.pres_server.specs.SumStates.{SumState}
use Rattle.pres_server.proofs.SumServers.{accepted_is}
use Rattle.pres_server.proofs.server.Server.count.Goals as goal

pub returns : goal.returns
returns c =
    let inside = c.self.inside in
    c.count.ensures ∙ accepted_is inside.batches inside.moment inside.number inside.index c.args.session.now
    ∙ ap (λ (x : SumState). accepted_in c.args.session.now x.sum) c.self.view_is
