-- what is booked, with the turns that are left, makes what is booked of all of them
use Rattle.std.proofs.Common.{◌≡◌, ◌≤◌, ◌+◌, take, drop, vec_len, vec_capacity}
use Rattle.std.specs.VecDeque.{deque_len}
use Rattle.pres_hub.proofs.Booked.{Booking}
use Rattle.pres_hub.proofs.center.together.book.Given as goal

abbrev pub invariant-messages : goal.invariant-messages
invariant-messages g l = record {
  booking : Booking l.number l.fn.waiting.seat (take l.fn.waiting.count l.fn.turned.items) l.fn.tally l.seat l.said.items (take l.left l.turned.items) l.tally;
  many : l.left ≤ deque_len l.turned;
  rest : drop l.left l.turned.items ≡ drop l.fn.waiting.count l.fn.turned.items;
  room : vec_len l.said + l.left ≤ vec_capacity l.said;
}

abbrev pub decreases-messages : goal.decreases-messages
decreases-messages g l = l.left
