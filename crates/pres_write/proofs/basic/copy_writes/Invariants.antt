use Rattle.std.proofs.Common.{◌≡◌, take}
use Rattle.pres_write.proofs.basic.copy_writes.Given as goal

abbrev pub invariant-loop-write : goal.invariant-loop-write
invariant-loop-write l = l.made.items ≡ take l.write-index l.writes
