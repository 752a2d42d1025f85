-- the requests so far fit together
use Rattle.std.proofs.Common.{◌≡◌, ◌+◌, vec_len}
use Rattle.std.specs.VecDeque.{deque_len}
use Rattle.pres_hub.specs.InternalGroups.{Gathers}
use Rattle.pres_hub.proofs.center.Core.gather.Given as goal

abbrev pub invariant-requests : goal.invariant-requests
invariant-requests g l = record {
  gathers : Gathers l.self.run l.fn.requests.items l.requests.items l.waiting.items l.inputs.items;
  counted : deque_len l.requests + vec_len l.waiting ≡ deque_len l.fn.requests;
}

abbrev pub decreases-requests : goal.decreases-requests
decreases-requests g l = deque_len l.requests
