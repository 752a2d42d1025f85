use Rattle.std.proofs.Common.{◌≡◌, ◌∷◌, ◌++◌, [], Some, ap, subst, ◌∙◌, length, rules}
use Rattle.std.proofs.lemmas.Result.{on_ok_weaker}
use Rattle.pres_client.specs.declared.call.Call.TheVariants.{GoOnline, GoOffline}
use Rattle.pres_client_connection.specs.DrivenClients.{Drives, asked_in}
use Rattle.pres_client_connection.proofs.Driven.{drives_then, goes_on, asked_more, asked_done}
use Rattle.pres_client_connection.proofs.drive.drive.Goals as goal

pub loop-line-init : goal.loop-line-init
loop-line-init g c =
    let text = g.W.Write.contents in
    (Some GoOnline ∷ [], goes_on c.args.client.now c.make.new.client c.settle.new.client (Some GoOnline ∷ []) (text c.args.output.now) (text c.make.new.output) (text c.settle.new.output) c.in_ok-make.ensures.driven c.in_ok-settle.ensures.driven, ap (λ ls. Some GoOnline ∷ asked_in ls) c.into_iter-line-iterator.ensures.into_iter_gives.0, c.in_ok-settle.ensures.settled)

pub loop-line-preserved : goal.loop-line-preserved
loop-line-preserved g c =
    let text = g.W.Write.contents in
    let line = c.in-Some.line in
    let before = c.args.client.now in
    let old = text c.args.output.now in
    let so_far = c.loop-line.invariant in
    let followed = drives_then before c.loop-line.client c.follow.new.client so_far.0 (asked_in (line ∷ [])) old (text c.loop-line.output) (text c.follow.new.output) so_far.1 so_far.3 c.in_ok-follow.ensures.driven in
    let settled = goes_on before c.follow.new.client c.settle-in-loop-line.new.client (so_far.0 ++ asked_in (line ∷ [])) old (text c.follow.new.output) (text c.settle-in-loop-line.new.output) followed c.in_ok-settle-2.ensures.driven in
    (so_far.0 ++ asked_in (line ∷ []), settled, asked_more so_far.0 line c.loop-line.line-iterator.rest.items c.next.new.self.rest.items c.in-Some.ensures.steps.0 ∙ so_far.2, c.in_ok-settle-2.ensures.settled)

pub returns-clause-driven : goal.returns-clause-driven
returns-clause-driven g c =
    let text = g.W.Write.contents in
    let before = c.args.client.now in
    let now = c.hand_out.new.client in
    let old = text c.args.output.now in
    let so_far = c.loop-line.invariant in
    let none : length c.loop-line.line-iterator.rest.items ≡ 0 = search rules in
    let all : so_far.0 ≡ Some GoOnline ∷ asked_in c.args.lines.items = asked_done so_far.0 (Some GoOnline ∷ asked_in c.args.lines.items) c.loop-line.line-iterator.rest.items none so_far.2 in
    let asked = so_far.0 ++ Some GoOffline ∷ [] in
    let offline = drives_then before c.loop-line.client c.make-2.new.client so_far.0 (Some GoOffline ∷ []) old (text c.loop-line.output) (text c.make-2.new.output) so_far.1 so_far.3 c.in_ok-make-2.ensures.driven in
    on_ok_weaker c.hand_out.result
    (λ h. subst (λ ks. Drives before ks now old (text c.hand_out.new.output)) (ap (λ ks. ks ++ Some GoOffline ∷ []) all) (goes_on before c.make-2.new.client now asked old (text c.make-2.new.output) (text c.hand_out.new.output) offline h))
    c.hand_out.ensures.driven
