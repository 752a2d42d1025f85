use Rattle.std.proofs.Common.{◌≡◌, take}
use Rattle.pres_base.proofs.copies.copy_sessions.Given as goal

abbrev pub invariant-loop-session : goal.invariant-loop-session
invariant-loop-session l = l.made.items ≡ take l.session-index l.sessions
