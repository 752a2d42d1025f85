-- the inputs so far joined, and their batches wait
use Rattle.std.proofs.Common.{◌≡◌, ◌+◌, length}
use Rattle.std.specs.VecDeque.{deque_len}
use Rattle.pres_keeper.specs.EngineGroups.{Fills}
use Rattle.pres_keeper.proofs.engine.fill.Given as goal

abbrev pub invariant-inputs : goal.invariant-inputs
invariant-inputs l = record {
  fills : Fills l.fn.group l.fn.queue.items l.fn.now l.group l.queue.items;
  counted : deque_len l.queue + length l.group.batches ≡ deque_len l.fn.queue + length l.fn.group.batches;
}

abbrev pub decreases-inputs : goal.decreases-inputs
decreases-inputs l = deque_len l.queue
