use Rattle.std.proofs.Common.{take}
use Rattle.pres_fan.proofs.Walks.{Here}
use Rattle.pres_fan.proofs.index.add_here.Given as goal

-- the sessions so far are found
abbrev pub invariant-loop-session : goal.invariant-loop-session
invariant-loop-session l = Here (take l.session-index l.session-items) l.path l.fn.found.items l.found.items
