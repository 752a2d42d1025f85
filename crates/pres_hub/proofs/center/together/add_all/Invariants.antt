-- the messages that are left make the inputs those of all
use Rattle.std.proofs.Common.{◌≡◌, ◌+◌, ◌≤◌, ◌++◌, map, vec_len, vec_capacity}
use Rattle.std.specs.VecDeque.{deque_len}
use Rattle.pres_server.specs.declared.input.Input.TheVariants as input
use Rattle.pres_hub.proofs.center.together.add_all.Given as goal

abbrev pub invariant-messages : goal.invariant-messages
invariant-messages l = record {
  inputs : l.inputs.items ++ map input.Up l.messages.items ≡ l.fn.inputs.items ++ map input.Up l.fn.messages.items;
  room : vec_len l.inputs + deque_len l.messages ≤ vec_capacity l.inputs;
}

abbrev pub decreases-messages : goal.decreases-messages
decreases-messages l = deque_len l.messages
