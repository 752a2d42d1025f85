use Rattle.std.proofs.Common.{take}
use Rattle.pres_fan.proofs.Walks.{FindsTouched, OnlyTouched}
use Rattle.pres_fan.proofs.index.met.Given as goal

-- those whose paths the writes so far touch are found, and only they
abbrev pub invariant-loop-write : goal.invariant-loop-write
invariant-loop-write l = FindsTouched (take l.write-index l.writes) l.root l.found.items × OnlyTouched (take l.write-index l.writes) l.root l.found.items
