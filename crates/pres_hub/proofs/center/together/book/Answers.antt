use Rattle.std.proofs.Common.{◌≡◌, ◌<◌, ◌-◌, ◌∙◌, ◌++◌, ◌∷◌, [], List, sym, ap, subst, take, drop, arith}
use Rattle.pres_dispatch.specs.Groups.{Turned}
use Rattle.pres_hub.specs.CoreGroups.{Outcome}
use Rattle.pres_hub.proofs.Booked.{Booking, take_less, drop_less, booked_more}
use Rattle.pres_hub.proofs.center.together.book.Goals as goal

pub messages-preserved : goal.messages-preserved
messages-preserved g c =
    let i = c.messages.invariant in
    let some : 0 < c.messages.left = omega (arith, c.messages-test.true) in
    let is = ap (take c.messages.left) c.in-Some.ensures.items ∙ take_less c.messages.left c.in-Some.turn c.pop_front.new.self.items some in
    let gone = ap (drop c.messages.left) c.in-Some.ensures.items ∙ drop_less c.messages.left c.in-Some.turn c.pop_front.new.self.items some in
    record {
      booking =
          booked_more c.args.number c.args.waiting.seat (take c.args.waiting.count c.args.turned.now.items) c.args.tally.now c.messages.seat c.book_one.new.seat c.messages.said.items c.in-Some.turn (take (c.messages.left - 1) c.pop_front.new.self.items) c.messages.tally c.book_one.new.tally c.push_reserved.new.self.items
          (subst (λ (ts : List Turned). Booking c.args.number c.args.waiting.seat (take c.args.waiting.count c.args.turned.now.items) c.args.tally.now c.messages.seat c.messages.said.items ts c.messages.tally) is i.booking)
          c.book_one.ensures.seat c.book_one.ensures.tally (c.push_reserved.ensures.items ∙ ap (λ (o : Outcome). c.messages.said.items ++ o ∷ []) c.book_one.ensures.outcome);
      many = omega (arith, i.many, c.in-Some.ensures.cases);
      rest = sym gone ∙ i.rest;
      room = omega (arith, i.room, some, c.push_reserved.ensures.len, c.push_reserved.ensures.capacity);
    }
