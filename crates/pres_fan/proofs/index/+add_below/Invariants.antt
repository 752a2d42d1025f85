use Rattle.std.proofs.Common.{◌-◌, length}
use Rattle.pres_fan.proofs.Walks.{Below}
use Rattle.pres_fan.proofs.index.+add_below.Given as goal

abbrev pub decreases-add_below : goal.decreases-add_below
decreases-add_below l = 32 - length l.path.now

-- the listeners at the level are found, and those at the levels so far
abbrev pub invariant-loop-key : goal.invariant-loop-key
invariant-loop-key l = Below l.level l.path l.key-iterator l.fn.found.items l.found.items
