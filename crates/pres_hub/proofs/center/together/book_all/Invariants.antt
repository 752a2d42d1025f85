-- what is booked of the seats so far, with those that are left, makes what is booked of all
use Rattle.std.proofs.Common.{◌≡◌, ◌+◌, vec_len, vec_capacity}
use Rattle.std.specs.Vec.Iter.{into_iter_items, into_iter_len}
use Rattle.pres_hub.proofs.Booked.{BookingAll}
use Rattle.pres_hub.proofs.center.together.book_all.Given as goal

abbrev pub invariant-seats : goal.invariant-seats
invariant-seats g l = record {
  booking : BookingAll l.number l.fn.waiting.items l.fn.turned l.fn.tally l.fn.answers.items (into_iter_items l.rest) l.turned.items l.tally l.answers.items;
  told : vec_len l.answers + into_iter_len l.rest ≡ vec_len l.fn.answers + vec_len l.fn.waiting;
  room : vec_capacity l.answers ≡ vec_capacity l.fn.answers;
}

abbrev pub decreases-seats : goal.decreases-seats
decreases-seats g l = into_iter_len l.rest
