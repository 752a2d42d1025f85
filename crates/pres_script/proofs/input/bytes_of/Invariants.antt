use Rattle.std.proofs.Common.{◌≡◌, length}
use Rattle.std.specs.Io.KnownBytes.{Consumes}
use Rattle.pres_script.proofs.input.bytes_of.Given as goal

-- what was read so far stood at the front of the input
abbrev pub invariant-loop : goal.invariant-loop
invariant-loop g l = Consumes (g.I.Read.remaining l.fn.input) (g.I.Read.remaining l.input) l.bytes.items × (length l.piece ≡ 65536)
