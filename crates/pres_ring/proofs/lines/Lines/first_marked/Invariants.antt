-- the lines that were passed aren't marked
use Rattle.std.proofs.Common.{◌≡◌}
use Rattle.pres_ring.specs.Lines.{first_marked}
use Rattle.pres_ring.specs.InternalFeeds.{lines_of}
use Rattle.pres_ring.proofs.lines.Lines.first_marked.Given as goal

abbrev pub invariant-loop-session : goal.invariant-loop-session
invariant-loop-session l = first_marked l.self ≡ first_marked (lines_of l.session-iterator)
