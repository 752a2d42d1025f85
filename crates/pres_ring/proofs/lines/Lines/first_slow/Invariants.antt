-- the lines that were passed aren't slow
use Rattle.std.proofs.Common.{◌≡◌}
use Rattle.pres_ring.specs.Lines.{first_slow}
use Rattle.pres_ring.specs.InternalFeeds.{lines_of}
use Rattle.pres_ring.proofs.lines.Lines.first_slow.Given as goal

abbrev pub invariant-loop-session : goal.invariant-loop-session
invariant-loop-session l = first_slow l.self ≡ first_slow (lines_of l.session-iterator)
