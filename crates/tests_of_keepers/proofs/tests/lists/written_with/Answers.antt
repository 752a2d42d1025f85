use denote.Param.Send.{sendable}
use denote.Param.SendFields.{declared_send, as_row_send}
use Rattle.std.proofs.Crossing.{crosses}
use Rattle.pres_hub.proofs.Crossing.{keeper_send}
use Rattle.tests_of_keepers.proofs.tests.lists.written_with.Goals as goal

pub sixteen-taken-requires-send-K : goal.sixteen-taken-requires-send-K
sixteen-taken-requires-send-K g c κs within = search (keeper_send, declared_send, as_row_send, crosses, sendable) depth 60 fits 20000
