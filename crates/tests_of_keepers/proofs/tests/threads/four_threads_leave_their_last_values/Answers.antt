use denote.Param.Send.{sendable}
use Rattle.std.proofs.Crossing.{crosses}
use Rattle.pres_hub.proofs.Crossing.{keeper_send}
use Rattle.tests_of_keepers.proofs.tests.threads.four_threads_leave_their_last_values.Goals as goal

pub four-outcome-requires-send-K : goal.four-outcome-requires-send-K
four-outcome-requires-send-K g c κs = search (keeper_send, crosses, sendable) depth 60 fits 20000
