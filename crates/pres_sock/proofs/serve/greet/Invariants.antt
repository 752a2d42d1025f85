use Rattle.std.proofs.Common.{◌≡◌}
use Rattle.pres_sock.proofs.serve.greet.Given as goal

abbrev pub invariant-asked : goal.invariant-asked
invariant-asked g l = l.bell ≡ l.fn.bell
