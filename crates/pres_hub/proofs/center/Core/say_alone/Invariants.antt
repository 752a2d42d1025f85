-- the messages so far were said
use Rattle.std.proofs.Common.{◌≡◌, ◌+◌, ◌≤◌, vec_len, vec_capacity}
use Rattle.std.specs.VecDeque.{deque_len}
use Rattle.pres_hub.specs.Cores.{GoesOn}
use Rattle.pres_hub.proofs.Booked.{SoFar}
use Rattle.pres_hub.proofs.center.Core.say_alone.Given as goal

abbrev pub invariant-messages : goal.invariant-messages
invariant-messages g l = let K = g.K.Keeper in record {
  so_far : SoFar K.works K.keeps l.fn.request.seat l.fn.request.messages l.messages.items l.said.items l.seat l.now l.fn.self l.self;
  session : l.seat.session ≡ l.fn.request.seat.session;
  room : vec_len l.said + deque_len l.messages ≤ vec_capacity l.said;
  rises : l.fn.self.run.number ≤ l.self.run.number;
  base : l.self.run.base_number ≡ l.fn.self.run.base_number;
  start : l.self.start ≡ l.fn.self.start;
  goes_on : GoesOn K.works K.keeps l.fn.self l.self;
}

abbrev pub decreases-messages : goal.decreases-messages
decreases-messages g l = deque_len l.messages
