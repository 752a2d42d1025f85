use Rattle.std.proofs.Common.{◌≡◌, ◌++◌, [], ◌∷◌, refl, ap, sym, ◌∙◌, append-nil, rules}
use Rattle.pres_client_state.specs.Watches.{with_watch, fresh}
use Rattle.pres_client.specs.Clients.{ClientState, no_message}
use Rattle.pres_client.specs.Calls.{enqueue, sent_now}
use Rattle.pres_client.proofs.Ranges.{in_range-other, below}
use Rattle.pres_client.proofs.Watched.{watched_fields}
use Rattle.pres_client.proofs.client.Client.watch_by.Goals as goal
use Rattle.std.proofs.Common.{arith}
use Rattle.std.proofs.lemmas.Grind.{common_steps}

pub invariant_of-self-2 : goal.invariant_of-self-2
invariant_of-self-2 c =
    rw (c.put.ensures.queue, c.reserve.ensures.queue)
    (in_range-other _ _ _ _ _ _ c.args.queued c.self.invariant c.requires.no_write (below _ (ap no_message c.self.view_is ∙ c.requires.message)))

pub returns-clause-ok : goal.returns-clause-ok
returns-clause-ok c =
    let m = c.args.queued in
    let i = c.self.inside in
    let before : ClientState =
    record {
      session = i.session;
      attempts = i.attempts;
      phase = i.phase;
      base = i.base;
      made = i.made;
      sent = i.sent;
      answered = i.answered;
      heard = i.heard;
      taken = i.taken;
      seen = i.seen;
      requests = i.requests;
      queue = i.mail.queue;
      watches = i.watches;
      asks = i.asks;
      sends = i.mail.sends;
      notices = i.mail.notices;
    } in
    let queue : c.put.new.self.queue ≡ i.mail.queue ++ m ∷ [] = c.put.ensures.queue ∙ rw c.reserve.ensures.queue refl in
    let out : c.in-Ok.sends.items ≡ sent_now before m = c.in-Ok.ensures ∙ ap (λ t. sent_now t m) (sym c.self.view_is) in
    let sends : c.put.new.self.sends ≡ i.mail.sends ++ sent_now before m = c.put.ensures.sends ∙ rw (c.reserve.ensures.sends, out) refl in
    let notices : c.put.new.self.notices ≡ i.mail.notices = c.put.ensures.notices ∙ rw (c.reserve.ensures.notices, c.new.ensures.items) (append-nil i.mail.notices) in
    let added : c.add.new.self ≡ with_watch c.args.path (fresh c.args.request) i.watches = search rules in
    let after : ClientState → ClientState = λ t. record (enqueue t m) { watches = with_watch c.args.path (fresh c.args.request) t.watches } in
    ◌∙◌ {b = after before}
    (watched_fields before m c.args.path c.args.request c.put.new.self.queue c.put.new.self.sends c.put.new.self.notices c.add.new.self queue sends notices added)
    (ap after c.self.view_is)

pub returns-in_default-reserve-clause-err : goal.returns-in_default-reserve-clause-err
returns-in_default-reserve-clause-err c = grind (arith, common_steps)

pub invariant_of-self-in_default-add : goal.invariant_of-self-in_default-add
invariant_of-self-in_default-add c = grind (arith, common_steps)

pub invariant_of-self : goal.invariant_of-self
invariant_of-self c = grind (arith, common_steps)

pub returns-in_default-add-clause-err : goal.returns-in_default-add-clause-err
returns-in_default-add-clause-err c = grind (arith, common_steps)
