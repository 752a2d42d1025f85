use Rattle.std.proofs.Common.{◌∙◌, arith}
use Rattle.std.specs.Vec.Iter.{into_iter_items}
use Rattle.pres_hub.proofs.Booked.{few_first, all_next}
use Rattle.pres_hub.proofs.center.together.book_all.Goals as goal

pub book-requires-clause-few : goal.book-requires-clause-few
book-requires-clause-few g c = few_first c.seats.tally.accepted c.in-Some.waiting.count c.seats.turned.items c.seats.invariant.booking.few

pub seats-preserved : goal.seats-preserved
seats-preserved g c =
    let i = c.seats.invariant in record {
      booking =
          all_next c.args.number c.args.waiting.items c.args.turned c.args.tally.now c.args.answers.now.items (into_iter_items c.seats.rest) (into_iter_items c.next.new.self) c.in-Some.waiting c.seats.turned.items c.book.new.turned.items c.seats.tally c.book.new.tally c.seats.answers.items c.push_reserved.new.self.items c.book.result i.booking
          c.in-Some.ensures.items c.book.ensures.answer c.book.ensures.turned c.book.ensures.tally c.push_reserved.ensures.items;
      told = omega (arith, i.told, c.in-Some.ensures.len, c.push_reserved.ensures.len);
      room = c.push_reserved.ensures.capacity ∙ i.room;
    }
