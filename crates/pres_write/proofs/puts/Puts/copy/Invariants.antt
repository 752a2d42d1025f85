use Rattle.std.proofs.Common.{◌≡◌, take}
use Rattle.pres_write.proofs.puts.Puts.copy.Given as goal

abbrev pub invariant-loop-placement : goal.invariant-loop-placement
invariant-loop-placement l = l.placements.items ≡ take l.placement-index l.self
