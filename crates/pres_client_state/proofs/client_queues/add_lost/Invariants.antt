-- what was added, and what is still to come, are the notices of the queue
use Rattle.std.proofs.Common.{◌≡◌, ◌++◌}
use Rattle.std.specs.List.{filter_map}
use Rattle.std.specs.VecDeque.Iter.{deque_iter_rest}
use Rattle.pres_client_state.specs.Queues.{lost_action}
use Rattle.pres_client_state.proofs.client_queues.add_lost.Given as goal

abbrev pub invariant-loop-queued : goal.invariant-loop-queued
invariant-loop-queued l =
    l.notices.items ++ filter_map lost_action (deque_iter_rest l.queued-iterator) ≡ l.fn.notices.items ++ filter_map lost_action l.queue.items
