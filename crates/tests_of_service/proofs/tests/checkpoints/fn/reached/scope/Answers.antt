use denote.Param.Send.{sendable}
use Rattle.std.proofs.Crossing.{crosses}
use Rattle.pres_hub.proofs.Crossing.{keeper_send}
use Rattle.tests_of_service.proofs.tests.checkpoints.fn.reached.scope.Goals as goal

pub serve_connections-ended-requires-send-K : goal.serve_connections-ended-requires-send-K
serve_connections-ended-requires-send-K g c κs within = search (keeper_send, crosses, sendable) depth 60 fits 20000
