use Rattle.std.proofs.Common.{[]}
use Rattle.std.proofs.lemmas.Result.{on_ok_weaker}
use Rattle.pres_client_connection.proofs.Driven.{goes_on, received}
use Rattle.pres_client_connection.proofs.drive.receive.Goals as goal

pub returns-in-Ok-clause-driven : goal.returns-in-Ok-clause-driven
returns-in-Ok-clause-driven g c =
    let text = g.W.Write.contents in
    let old = text c.args.output.now in
    on_ok_weaker c.hand_out.result (goes_on c.args.client.now c.receive.new.self c.hand_out.new.client [] old old (text c.hand_out.new.output) (received c.args.client.now c.receive.new.self c.in_ok-message.message old c.in_ok-message.ensures.message c.in-Ok.ensures.ok))
    c.hand_out.ensures.driven
