use Rattle.std.proofs.Common.{◌≡◌, take}
use Rattle.pres_write.specs.Basics.{applied}
use Rattle.pres_write.proofs.basic.apply.Given as goal

abbrev pub invariant-loop-write : goal.invariant-loop-write
invariant-loop-write l = l.tree ≡ applied l.initial.tree (take l.write-index l.writes)
