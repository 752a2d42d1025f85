-- the numbers so far
use Rattle.std.proofs.Common.{◌≡◌, ◌+◌, take, map}
use Rattle.pres_retry.specs.Offsets.{offsets_of}
use Rattle.pres_retry.proofs.shelf.in_eight_bytes.Given as goal

abbrev pub invariant-loop-place : goal.invariant-loop-place
invariant-loop-place l = l.numbers.items ≡ map (λ o. l.start + o) (take l.place (offsets_of l.offsets))
