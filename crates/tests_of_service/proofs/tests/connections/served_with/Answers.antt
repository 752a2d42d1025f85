use denote.Param.Send.{sendable}
use Rattle.std.proofs.Crossing.{crosses}
use Rattle.pres_hub.proofs.Crossing.{keeper_send}
use Rattle.tests_of_service.proofs.tests.connections.served_with.Goals as goal

pub serve_stream-parting-requires-send-K : goal.serve_stream-parting-requires-send-K
serve_stream-parting-requires-send-K g c κs within = search (keeper_send, crosses, sendable) depth 60 fits 20000
