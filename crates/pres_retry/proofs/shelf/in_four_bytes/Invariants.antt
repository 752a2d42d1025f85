-- the offsets so far
use Rattle.std.proofs.Common.{◌≡◌, take}
use Rattle.pres_retry.proofs.shelf.in_four_bytes.Given as goal

abbrev pub invariant-loop-offset : goal.invariant-loop-offset
invariant-loop-offset l = l.wide.items ≡ take l.offset-index l.offsets
