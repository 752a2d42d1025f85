-- the messages so far are taken
use Rattle.std.proofs.Common.{take}
use Rattle.std.specs.List.{AllByRecursion}
use Rattle.pres_hub.specs.CoreCalls.{IsTaken}
use Rattle.pres_hub.proofs.center.Core.takes.Given as goal

abbrev pub invariant-loop-i : goal.invariant-loop-i
invariant-loop-i g l = AllByRecursion (λ m. IsTaken l.seat m l.self.run.server l.self.run.number) (take l.i l.messages.items)
