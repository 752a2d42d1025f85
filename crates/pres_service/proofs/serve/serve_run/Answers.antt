use Rattle.tungstenite.proofs.SocketLemmas.{appends-chain}
use Rattle.pres_service.specs.Outputs.{listening_line, number_line}
use Rattle.pres_service.proofs.serve.serve_run.Goals as goal

-- the line at its end follows the one with which it began
pub returns-in-Ok-clause-said : goal.returns-in-Ok-clause-said
returns-in-Ok-clause-said g c =
    let before = g.W.Write.contents c.args.output.now in
    let listening = g.W.Write.contents c.granted.new.output in
    let after = g.W.Write.contents c.writeln.new.self in
    (c.in_ok-number.number, appends-chain before listening after (listening_line c.args.serving.address.now) (number_line c.in_ok-number.number) c.in_ok-number.ensures.said c.in-Ok.ensures.bytes)
