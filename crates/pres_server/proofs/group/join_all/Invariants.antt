-- the batches that are left lead the server and its answers to those of all
use Rattle.std.proofs.Common.{◌≡◌, ◌++◌}
use Rattle.std.specs.Vec.Iter.{into_iter_items, into_iter_len}
use Rattle.pres_server.specs.SumTurns.{FollowAll}
use Rattle.pres_server.specs.Groups.{state_from, answers_each}
use Rattle.pres_server.proofs.group.join_all.Given as goal

abbrev pub invariant-turns : goal.invariant-turns
invariant-turns l = record {
  follow : FollowAll l.server.sum (into_iter_items l.rest);
  there : state_from l.server (into_iter_items l.rest) ≡ state_from l.fn.server l.fn.batches.items;
  told : l.answers.items ++ answers_each l.server.sum (into_iter_items l.rest) ≡ answers_each l.fn.server.sum l.fn.batches.items;
}

abbrev pub decreases-turns : goal.decreases-turns
decreases-turns l = into_iter_len l.rest
