-- what was added, and what is still to come, are the messages of the queue
use Rattle.std.proofs.Common.{◌≡◌, ◌++◌, length}
use Rattle.std.specs.VecDeque.Iter.{deque_iter_rest}
use Rattle.pres_client_state.specs.Queues.{messages, count_writes}
use Rattle.pres_client_state.specs.ClientQueues.{MayNumber}
use Rattle.pres_client_state.proofs.client_queues.add_messages.Given as goal

abbrev pub invariant-loop-queued : goal.invariant-loop-queued
invariant-loop-queued l =
    (l.sends.items ++ messages l.session l.q l.n (deque_iter_rest l.queued-iterator) ≡ l.fn.sends.items ++ messages l.session l.fn.from_q l.fn.from_n l.queue.items)
    × (MayNumber l.q (length (deque_iter_rest l.queued-iterator)) × MayNumber l.n (count_writes (deque_iter_rest l.queued-iterator)))
