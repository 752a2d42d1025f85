-- the first requests are said
use Rattle.std.proofs.Common.{◌≡◌, ◌+◌, ◌≤◌, vec_len, vec_capacity}
use Rattle.std.specs.VecDeque.{deque_len}
use Rattle.pres_hub.specs.Cores.{GoesOn}
use Rattle.pres_hub.specs.CoreGroups.{AreSaidFirst}
use Rattle.pres_hub.proofs.center.Core.say_all.Given as goal

abbrev pub invariant-requests : goal.invariant-requests
invariant-requests g l = let K = g.K.Keeper in record {
  said : AreSaidFirst K.works K.keeps l.fn.requests.items l.fn.answers.items l.now l.fn.self l.self l.requests.items l.answers.items;
  room : vec_len l.answers + deque_len l.requests ≤ vec_capacity l.answers;
  rises : l.fn.self.run.number ≤ l.self.run.number;
  base : l.self.run.base_number ≡ l.fn.self.run.base_number;
  start : l.self.start ≡ l.fn.self.start;
  goes_on : GoesOn K.works K.keeps l.fn.self l.self;
}

abbrev pub decreases-requests : goal.decreases-requests
decreases-requests g l = deque_len l.requests
