use Rattle.std.proofs.Common.{[]}
use Rattle.pres_client_connection.proofs.Driven.{goes_on}
use Rattle.pres_client_connection.proofs.drive.settle.Goals as goal

pub reads-preserved : goal.reads-preserved
reads-preserved g c =
    let text = g.W.Write.contents in
    (goes_on c.args.client.now c.reads.client c.receive.new.client [] (text c.args.output.now) (text c.reads.output) (text c.receive.new.output) c.reads.invariant.0 c.in_ok-receive.ensures.driven, c.in_ok-receive.ensures.sent, c.in_ok-receive.ensures.told)
