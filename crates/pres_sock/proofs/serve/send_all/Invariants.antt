use Rattle.std.proofs.Common.{◌≡◌}
use Rattle.pres_sock.proofs.serve.send_all.Given as goal

abbrev pub invariant-messages : goal.invariant-messages
invariant-messages g l = l.place.seat ≡ l.fn.place.seat
