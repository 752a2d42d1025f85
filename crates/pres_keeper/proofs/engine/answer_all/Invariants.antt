-- the answers that are left make the results those with all answers
use Rattle.std.proofs.Common.{◌≡◌, ◌+◌, ◌≤◌, ◌++◌, vec_len, vec_capacity}
use Rattle.std.specs.Vec.Iter.{into_iter_items, into_iter_len}
use Rattle.pres_keeper.specs.EngineGroups.{answered}
use Rattle.pres_keeper.proofs.engine.answer_all.Given as goal

abbrev pub invariant-answers : goal.invariant-answers
invariant-answers l = record {
  items : l.results.items ++ answered (into_iter_items l.rest) ≡ l.fn.results.items ++ answered l.fn.answers;
  told : vec_len l.results + into_iter_len l.rest ≡ vec_len l.initial.results + into_iter_len l.initial.rest;
  room : vec_capacity l.initial.results ≤ vec_capacity l.results;
}

abbrev pub decreases-answers : goal.decreases-answers
decreases-answers l = into_iter_len l.rest
