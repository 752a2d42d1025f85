use Rattle.std.proofs.Common.{◌≡◌, ◌≤◌, Option}
use Rattle.pres_server.specs.SumStates.{SumState}
use Rattle.pres_ring.specs.Lines.{Lines}
use Rattle.pres_dispatch.specs.Dispatches.{StayMarked}
use Rattle.pres_hub.specs.Cores.{GoesOn}
use Rattle.pres_hub.specs.CoreCalls.{AreLateEnded}
use Rattle.pres_hub.proofs.Fewer.{left_of}
use Rattle.pres_hub.proofs.Ticking.{LateSince}
use Rattle.pres_hub.proofs.center.Core.end_late.Given as goal

-- what is ended from now on is ended from the beginning on, and histories that stood then go on to some that stand now
abbrev pub invariant-loop-self : goal.invariant-loop-self
invariant-loop-self g l =
    (l.self.counts ≡ l.fn.self.counts) × (l.self.start ≡ l.fn.self.start) × (l.fn.self.run.number ≤ l.self.run.number) × StayMarked l.fn.self.lines l.self.lines
    × ((after : Option SumState) (behind : Lines) → AreLateEnded l.now l.self.run.server after l.self.lines behind → AreLateEnded l.now l.fn.self.run.server after l.fn.self.lines behind)
    × GoesOn g.K.Keeper.works g.K.Keeper.keeps l.fn.self l.self × LateSince g.K.Keeper.works g.K.Keeper.keeps l.now l.fn.self l.self
    × (l.self.run.base_number ≡ l.fn.self.run.base_number)

abbrev pub decreases-loop-self : goal.decreases-loop-self
decreases-loop-self g l = left_of l.self.run.server
