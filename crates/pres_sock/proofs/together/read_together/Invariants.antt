use Rattle.std.proofs.Common.{◌≤◌, ◌-◌, max}
use Rattle.std.specs.VecDeque.{deque_len}
use Rattle.pres_sock.proofs.together.read_together.Given as goal

-- no more were added than are taken together
abbrev pub invariant-messages : goal.invariant-messages
invariant-messages g l = deque_len l.messages ≤ max 64 (deque_len l.fn.messages)

abbrev pub decreases-messages : goal.decreases-messages
decreases-messages g l = 64 - deque_len l.messages
