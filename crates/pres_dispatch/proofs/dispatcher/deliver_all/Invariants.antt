-- what is put from now on is put from the beginning on, and what is left of the turns so far is added
use Rattle.std.proofs.Common.{◌≡◌, ◌+◌, ◌≤◌, ◌++◌, map, vec_len, vec_capacity}
use Rattle.std.specs.Vec.Iter.{into_iter_items, into_iter_len}
use Rattle.pres_ring.specs.Lines.{Lines, unmarked}
use Rattle.pres_dispatch.specs.Groups.{MayDeliver, AreDelivered, turned_of}
use Rattle.pres_dispatch.proofs.dispatcher.deliver_all.Given as goal

abbrev pub invariant-results : goal.invariant-results
invariant-results g l = record {
  told : MayDeliver (into_iter_items l.rest) l.lines;
  put : (after : Lines) → AreDelivered (into_iter_items l.rest) l.lines after → AreDelivered l.fn.results l.fn.lines after;
  turned : l.turned.items ++ map turned_of (into_iter_items l.rest) ≡ l.fn.turned.items ++ map turned_of l.fn.results;
  room : vec_len l.turned + into_iter_len l.rest ≤ vec_capacity l.turned;
  fewer : unmarked l.lines ≤ unmarked l.fn.lines;
}

abbrev pub decreases-results : goal.decreases-results
decreases-results g l = into_iter_len l.rest
