-- the turns of the first inputs are done
use Rattle.std.proofs.Common.{◌≡◌, ◌+◌, ◌≤◌, [], vec_len, vec_capacity}
use Rattle.std.specs.VecDeque.{deque_len}
use Rattle.pres_server.specs.Histories.{History}
use Rattle.pres_keeper.specs.Engines.{IsHistoryOf}
use Rattle.pres_keeper.specs.EngineGroups.{KeepsOn, TurnsFirst}
use Rattle.pres_keeper.proofs.engine.Engine.turn_all.Given as goal

abbrev pub invariant-turns : goal.invariant-turns
invariant-turns g l = let K = g.K.Keeper in record {
  turned : (history : History) → IsHistoryOf history l.fn.self.server → TurnsFirst (KeepsOn K.works K.keeps K.outlasts l.fn.self.keeper l.self.keeper l.self.server history) l.fn.self.server history l.fn.inputs.items [] l.fn.now l.self.server l.queue.items l.results.items;
  room : vec_len l.results + deque_len l.queue ≤ vec_capacity l.results;
  rises : l.fn.self.number ≤ l.self.number;
  base : l.self.base_number ≡ l.fn.self.base_number;
  worked : K.works l.self.keeper → K.works l.fn.self.keeper;
  outlasts : (history : History) → K.outlasts l.fn.self.keeper history → K.outlasts l.self.keeper history;
}

abbrev pub decreases-turns : goal.decreases-turns
decreases-turns g l = deque_len l.queue
