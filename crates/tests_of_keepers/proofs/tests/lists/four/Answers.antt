use denote.Param.Send.{sendable}
use Rattle.std.proofs.Crossing.{crosses, send as global_is}
use Rattle.pres_dispatch.proofs.bells.NoBell.TheSendSync.{the_send as bell_is}
use Rattle.pres_hub.proofs.gate.OpenGate.TheSendSync.{the_sync as gate_is}
use Rattle.pres_hub.proofs.Crossing.{hub_sync}
use Rattle.tests_of_keepers.proofs.tests.lists.four.Goals as goal

pub join-requires-send-F : goal.join-requires-send-F
join-requires-send-F g c κs within = search (hub_sync, bell_is, gate_is, global_is, crosses, sendable) depth 60 fits 20000
