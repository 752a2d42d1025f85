use Rattle.std.proofs.Common.{◌≡◌, ◌++◌, [], ◌∷◌, false, Some, refl, ap, sym, ◌∙◌, ◌+◌, append-nil, if◌then◌else◌, rules}
use Rattle.pres_client_state.specs.Asks.{ask_of, without_ask}
use Rattle.pres_client.specs.Clients.{ClientState, is_online, no_message, no_write}
use Rattle.pres_client_state.specs.Asks.{is_too_deep}
use Rattle.pres_client.specs.Calls.{make_write, sent_now, try_of}
use Rattle.pres_client.proofs.Ranges.{in_range-write, below}
use Rattle.pres_client.proofs.Tried.{try_accepted, tried, tried_fields}
use Rattle.pres_client.proofs.client.Client.attempt.Goals as goal
use Rattle.std.proofs.Common.{arith}
use Rattle.std.proofs.lemmas.Grind.{common_steps}

pub invariant_of-self-2 : goal.invariant_of-self-2
invariant_of-self-2 c =
    let write = ap no_write c.self.view_is ∙ (sym c.no_write.ensures ∙ c.if-no_write.false) in
    let message = ap no_message c.self.view_is ∙ (sym c.no_message.ensures ∙ c.if-no_message.false) in
    rw (c.put.ensures.queue, c.reserve.ensures.queue, c.sent_with_one-sent.ensures)
    (rw (sym c.self.view_is) (in_range-write _ _ _ _ _ _ _ (is_online c.self.inside.phase) c.self.invariant refl (below _ write) (below _ message)))

pub returns-clause-ok : goal.returns-clause-ok
returns-clause-ok c =
    let found : ask_of c.args.request c.args.self.now.asks ≡ Some c.in-Some-take.ask = search rules in
    let deep : is_too_deep c.in-Some-take.ask c.args.draft ≡ false = search rules in
    let s = c.args.self.now in
    let accepted = try_accepted s c.args.draft (ask_of c.args.request s.asks) c.in-Some-take.ask found (sym c.no_write.ensures ∙ c.if-no_write.false) (sym c.no_message.ensures ∙ c.if-no_message.false) deep in
    let m = try_of c.args.request c.in-Some-take.ask c.args.draft in
    let same : c.in-Some.ask.now ≡ c.in-Some-take.ask = search rules in
    let i = c.self.inside in
    let before : ClientState =
    record {
      session = i.session;
      attempts = i.attempts;
      phase = i.phase;
      base = i.base;
      made = i.made;
      sent = i.sent;
      answered = i.answered;
      heard = i.heard;
      taken = i.taken;
      seen = i.seen;
      requests = i.requests;
      queue = i.mail.queue;
      watches = i.watches;
      asks = i.asks;
      sends = i.mail.sends;
      notices = i.mail.notices;
    } in
    let queue : c.put.new.self.queue ≡ i.mail.queue ++ m ∷ [] = c.put.ensures.queue ∙ rw (c.reserve.ensures.queue, c.into_transaction.ensures) refl in
    let out : c.in-Ok.sends.items ≡ sent_now before m = c.in-Ok.ensures c.args.request ∙ (ap (λ a. sent_now s (try_of c.args.request a c.args.draft)) same ∙ ap (λ t. sent_now t m) (sym c.self.view_is)) in
    let sends : c.put.new.self.sends ≡ i.mail.sends ++ sent_now before m = c.put.ensures.sends ∙ rw (c.reserve.ensures.sends, out) refl in
    let notices : c.put.new.self.notices ≡ i.mail.notices = c.put.ensures.notices ∙ rw (c.reserve.ensures.notices, c.new.ensures.items) (append-nil i.mail.notices) in
    let sent : c.sent_with_one-sent.result ≡ (if is_online i.phase then i.made + 1 else i.sent) = c.sent_with_one-sent.ensures ∙ ap (λ t. if is_online t.phase then t.made + 1 else t.sent) (sym c.self.view_is) in
    let after : ClientState → ClientState = λ t. let d = make_write t m in record d { asks = without_ask c.args.request t.asks } in
    let fields = tried_fields before m c.args.request c.sent_with_one-sent.result c.put.new.self.queue c.put.new.self.sends c.put.new.self.notices c.take.new.self queue sends notices c.take.ensures.left sent in (
      accepted,
      rw (tried s c.args.request c.args.draft (ask_of c.args.request s.asks) c.in-Some-take.ask found)
          (◌∙◌ {b = after before} fields (ap after c.self.view_is)),
    )

pub invariant_of-self : goal.invariant_of-self
invariant_of-self c = grind (arith, common_steps)

pub returns-in_default-reserve-clause-err : goal.returns-in_default-reserve-clause-err
returns-in_default-reserve-clause-err c = grind (arith, common_steps)

pub unreachable-requires-in_default-take : goal.unreachable-requires-in_default-take
unreachable-requires-in_default-take c = grind (arith, common_steps)

pub overflow_add-self : goal.overflow_add-self
overflow_add-self c = grind (arith, common_steps)

pub returns-in_default-try_now-clause-err : goal.returns-in_default-try_now-clause-err
returns-in_default-try_now-clause-err c = grind (arith, common_steps)

pub into_transaction-requires : goal.into_transaction-requires
into_transaction-requires c = grind (arith, common_steps)

pub returns-then-is_too_deep-clause-err : goal.returns-then-is_too_deep-clause-err
returns-then-is_too_deep-clause-err c = grind (arith, common_steps)
