use Rattle.std.proofs.Common.{◌≡◌, ◌∙◌, ap, arith}
use Rattle.pres_server.proofs.SumServers.{batches_small}
use Rattle.pres_server.proofs.replay.Replay.refused.Goals as goal

pub unreachable-requires : goal.unreachable-requires
unreachable-requires c =
    let small = batches_small c.self.inside.server.sum c.batches.ensures.sum in
    let same = c.batches.ensures.batches in
    c.in_default.ensures (omega arith, omega arith)
