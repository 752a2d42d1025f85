use Rattle.std.proofs.Common.{[], ◌∷◌, sym, subst, OnOk}
use Rattle.std.proofs.lemmas.Result.{on_ok_weaker}
use Rattle.pres_client_connection.specs.DrivenClients.{Drives, asked_in}
use Rattle.pres_client_connection.proofs.Driven.{nothing_done, goes_on, passed_over}
use Rattle.pres_client_connection.proofs.drive.follow.Goals as goal

pub reads-preserved : goal.reads-preserved
reads-preserved g c =
    let text = g.W.Write.contents in
    goes_on c.args.client.now c.reads.client c.receive.new.client [] (text c.args.output.now) (text c.reads.output) (text c.receive.new.output) c.reads.invariant c.in_ok-receive-in-Wait.ensures.driven

pub reads-init : goal.reads-init
reads-init g c = nothing_done c.args.client.now (g.W.Write.contents c.args.output.now)

pub returns-in-Refused-clause-driven : goal.returns-in-Refused-clause-driven
returns-in-Refused-clause-driven g c =
    let text = g.W.Write.contents in
    subst (λ l. OnOk c.tell_refusal.result (Drives c.args.client.now (asked_in (l ∷ [])) c.args.client.now (text c.args.output.now) (text c.tell_refusal.new.output))) (sym c.in-Refused.is)
    (on_ok_weaker c.tell_refusal.result (passed_over c.args.client.now (text c.args.output.now) (text c.tell_refusal.new.output)) c.tell_refusal.ensures.told)
