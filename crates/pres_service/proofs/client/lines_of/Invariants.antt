use Rattle.std.proofs.Common.{◌≡◌, ◌++◌, drop, map, Some}
use Rattle.pres_script.specs.Lines.{line_of_bytes, lines_in, as_parsed}
use Rattle.pres_service.proofs.client.lines_of.Given as goal

-- what the lines so far say, and then what those that are left say
abbrev pub invariant-loop-bytes : goal.invariant-loop-bytes
invariant-loop-bytes l = lines_in l.fn.input ≡ map (λ line. Some (as_parsed line)) l.lines.items ++ map (λ text. line_of_bytes text.now) (drop l.bytes-index l.bytes-items)
