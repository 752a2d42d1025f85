use denote.Param.Send.{sendable}
use Rattle.std.proofs.Crossing.{crosses}
use Rattle.pres_hub.proofs.Crossing.{keeper_send}
use Rattle.tests_of_keepers.proofs.tests.threads.two.Goals as goal

pub two_with-requires-send-K : goal.two_with-requires-send-K
two_with-requires-send-K g c κs within = search (keeper_send, crosses, sendable) depth 60 fits 20000
