use Rattle.std.proofs.Common.{◌↔◌, length}
use Rattle.pres_world.specs.Distinct.{AreDistinct}
use Rattle.pres_world.proofs.ids.distinct.Given as goal

-- an id that stands twice does so among those that are left
abbrev pub invariant-loop-first : goal.invariant-loop-first
invariant-loop-first l = AreDistinct l.rest ↔ AreDistinct l.fn.ids

abbrev pub decreases-loop-first : goal.decreases-loop-first
decreases-loop-first l = length l.rest
