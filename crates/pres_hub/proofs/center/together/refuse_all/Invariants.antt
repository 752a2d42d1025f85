-- the refusals for the seats that are left make the answers those to all
use Rattle.std.proofs.Common.{◌≡◌, ◌+◌, ◌++◌, map, vec_len, vec_capacity}
use Rattle.std.specs.Vec.Iter.{into_iter_items, into_iter_len}
use Rattle.pres_hub.specs.InternalGroups.{unheard_of}
use Rattle.pres_hub.proofs.center.together.refuse_all.Given as goal

abbrev pub invariant-seats : goal.invariant-seats
invariant-seats g l = record {
  answers : l.answers.items ++ map unheard_of (into_iter_items l.rest) ≡ l.fn.answers.items ++ map unheard_of l.fn.waiting.items;
  told : vec_len l.answers + into_iter_len l.rest ≡ vec_len l.fn.answers + vec_len l.fn.waiting;
  room : vec_capacity l.answers ≡ vec_capacity l.fn.answers;
}

abbrev pub decreases-seats : goal.decreases-seats
decreases-seats g l = into_iter_len l.rest
