use Rattle.std.proofs.Common.{◌∙◌, ap, ◌≡◌, ◌++◌, ◌∷◌, []}
use Rattle.std.specs.VecDeque.Iter.{deque_iter_rest}
use Rattle.pres_client_state.specs.Queues.{message, messages}
use Rattle.pres_client_state.proofs.Queues.{added}
use Rattle.pres_client_state.proofs.client_queues.add_messages.Goals as goal
use Rattle.std.proofs.Common.{arith}
use Rattle.std.proofs.lemmas.Grind.{common_steps}

pub loop-queued-preserved : goal.loop-queued-preserved
loop-queued-preserved c =
    let s = c.args.session.now in
    let l = c.loop-queued in
    let rest = deque_iter_rest c.next.new.self in
    let pushed : c.push.new.self.items ≡ l.sends.items ++ message s l.q l.n c.in-Some.queued.now ∷ [] =
    c.in_ok-push.ensures.items ∙ ap (λ m. l.sends.items ++ m ∷ []) (c.in_ok-message.ensures ∙ ap (λ q. message s q l.n c.in-Some.queued.now) c.number.ensures) in
    let h = added s l.q l.n c.in-Some.queued.now rest l.sends.items (c.args.sends.now.items ++ messages s c.args.from_q c.args.from_n c.args.queue.now.items) (deque_iter_rest l.queued-iterator) c.in-Some.ensures.steps c.loop-queued.invariant in
    rw (pushed, c.next_write-n.ensures) h

pub next_write-n-requires : goal.next_write-n-requires
next_write-n-requires c = grind (arith, common_steps)

pub message-requires : goal.message-requires
message-requires c = grind (arith, common_steps)

pub overflow_add-q : goal.overflow_add-q
overflow_add-q c = grind (arith, common_steps)

pub loop-queued-init : goal.loop-queued-init
loop-queued-init c = grind (arith, common_steps)

pub returns : goal.returns
returns c = grind (arith, common_steps)
