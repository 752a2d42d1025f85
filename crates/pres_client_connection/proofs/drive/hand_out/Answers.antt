use Rattle.std.proofs.lemmas.Result.{on_ok_weaker}
use Rattle.pres_client_connection.proofs.Driven.{handed_out}
use Rattle.pres_client_connection.proofs.drive.hand_out.Goals as goal

pub returns-clause-driven : goal.returns-clause-driven
returns-clause-driven g c =
    let text = g.W.Write.contents in
    on_ok_weaker c.tell_all.result (handed_out c.args.client.now c.take_sends.new.self c.take_notices.new.self c.take_notices.result.items (text c.args.output.now) (text c.tell_all.new.output) c.take_sends.ensures.left c.take_notices.ensures.given c.take_notices.ensures.left) c.tell_all.ensures.told
