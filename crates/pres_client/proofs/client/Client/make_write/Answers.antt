use Rattle.std.proofs.Common.{◌≡◌, ◌++◌, ap, sym, ◌∙◌, ◌+◌, if◌then◌else◌}
use Rattle.pres_client.specs.Clients.{ClientState, is_online, no_message, no_write}
use Rattle.pres_client.specs.Calls.{make_write, sent_now}
use Rattle.pres_client.proofs.Ranges.{in_range-write, below}
use Rattle.pres_client.proofs.Tried.{made_fields}
use Rattle.pres_client.proofs.client.Client.make_write.Goals as goal
use Rattle.std.proofs.Common.{arith}
use Rattle.std.proofs.lemmas.Grind.{common_steps}

pub invariant_of-self-2 : goal.invariant_of-self-2
invariant_of-self-2 c =
    rw (c.in_ok-push.ensures.queue, c.sent_with_one-sent.ensures)
    (rw (sym c.self.view_is)
    (in_range-write _ _ _ _ _ _ c.args.queued (is_online c.self.inside.phase) c.self.invariant c.requires.write (below _ (ap no_write c.self.view_is ∙ c.requires.number)) (below _ (ap no_message c.self.view_is ∙ c.requires.message))))

pub returns-clause-ok : goal.returns-clause-ok
returns-clause-ok c =
    let m = c.args.queued in
    let i = c.self.inside in
    let before : ClientState =
    record {
      session = i.session;
      attempts = i.attempts;
      phase = i.phase;
      base = i.base;
      made = i.made;
      sent = i.sent;
      answered = i.answered;
      heard = i.heard;
      taken = i.taken;
      seen = i.seen;
      requests = i.requests;
      queue = i.mail.queue;
      watches = i.watches;
      asks = i.asks;
      sends = i.mail.sends;
      notices = i.mail.notices;
    } in
    let out : c.in-Ok.sends.items ≡ sent_now before m = c.in-Ok.ensures ∙ ap (λ t. sent_now t m) (sym c.self.view_is) in
    let sends : c.push.new.self.sends ≡ i.mail.sends ++ sent_now before m = c.in_ok-push.ensures.sends ∙ ap (λ l. i.mail.sends ++ l) out in
    let sent : c.sent_with_one-sent.result ≡ (if is_online i.phase then i.made + 1 else i.sent) = c.sent_with_one-sent.ensures ∙ ap (λ t. if is_online t.phase then t.made + 1 else t.sent) (sym c.self.view_is) in
    ◌∙◌ {b = make_write before m}
    (made_fields before m c.sent_with_one-sent.result c.push.new.self.queue c.push.new.self.sends c.push.new.self.notices c.in_ok-push.ensures.queue sends c.push.ensures.notices sent)
    (ap (λ t. make_write t m) c.self.view_is)

pub invariant_of-self : goal.invariant_of-self
invariant_of-self c = grind (arith, common_steps)
