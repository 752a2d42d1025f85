-- `NoPlan` owes no rows, by any tree and moment.
use Rattle.std.proofs.Common.{[], refl}
use Rattle.tests_of_server.proofs.tests.sessions.a_client_comes_and_goes.Goals as goal

pub spend-gone-requires : goal.spend-gone-requires
spend-gone-requires g c = record { tree = []; moment = 0; all = refl }
