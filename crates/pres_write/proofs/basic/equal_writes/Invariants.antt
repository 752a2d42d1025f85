use Rattle.std.proofs.Common.{◌≡◌, drop}
use Rattle.std.specs.Prelude.{◌↔◌}
use Rattle.std.specs.Slice.Iter.{iter_rest}
use Rattle.pres_write.proofs.basic.equal_writes.Given as goal

-- what is left of both decides
abbrev pub invariant-loop-write : goal.invariant-loop-write
invariant-loop-write l = (l.writes ≡ l.others) ↔ (drop l.write-index l.writes ≡ iter_rest l.rest)
