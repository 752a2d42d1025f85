use Rattle.std.proofs.Common.{◌≡◌, ◌≤◌}
use Rattle.pres_ring.specs.Lines.{unmarked}
use Rattle.pres_dispatch.specs.Dispatches.{StayMarked}
use Rattle.pres_dispatch.proofs.Since.{EndedSince}
use Rattle.pres_dispatch.proofs.dispatcher.Dispatcher.end_slow.Given as goal

-- what is ended from now on is ended from the beginning on, and the number didn't fall
abbrev pub invariant-loop-next : goal.invariant-loop-next
invariant-loop-next g l = EndedSince g.K.Keeper.works g.K.Keeper.keeps l.now l.fn.self l.self × (l.fn.self.run.number ≤ l.self.run.number) × StayMarked l.fn.self.lines l.self.lines × (l.self.run.base_number ≡ l.fn.self.run.base_number)

abbrev pub decreases-loop-next : goal.decreases-loop-next
decreases-loop-next g l = unmarked l.self.lines
