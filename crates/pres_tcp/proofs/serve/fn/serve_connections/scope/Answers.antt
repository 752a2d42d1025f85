use denote.Param.Send.{arg_send, param_send, sendable}
use Rattle.std.proofs.Crossing.{crosses, send as global_is}
use Rattle.pres_hub.proofs.gate.OpenGate.TheSendSync.{the_sync as gate_is}
use Rattle.pres_hub.proofs.Crossing.{hub_sync}
use Rattle.pres_tcp.proofs.alarm.StreamBell.TheSendSync.{the_send as bell_is}
use Rattle.pres_tcp.proofs.health.Health.TheSendSync.{the_sync as health_is}
use Rattle.pres_tcp.proofs.stop.Stop.TheSendSync.{the_sync as stop_is}
use Rattle.pres_tcp.proofs.serve.fn.serve_connections.scope.Goals as goal

pub spawn-ticker-requires-send-F : goal.spawn-ticker-requires-send-F
spawn-ticker-requires-send-F g c κs within = search (hub_sync, gate_is, bell_is, stop_is, health_is, global_is, c.requires.1.1.1.1.1, crosses, sendable) depth 60 fits 20000

pub accept_all-requires-send-L : goal.accept_all-requires-send-L
accept_all-requires-send-L g c κs within = search (c.requires.1.1.1.1.1, param_send, arg_send) depth 60 fits 20000

pub accept_all-requires-send-K : goal.accept_all-requires-send-K
accept_all-requires-send-K g c κs within = search (c.requires.1.1.1.1.1, param_send, arg_send) depth 60 fits 20000
