use denote.Param.Send.{arg_send, param_send, param_sync, shr_send}
use Rattle.std.proofs.Crossing.{send as global_is}
use Rattle.std.proofs.net.tcp.TcpStream.TheSendSync.{the_send as stream_is}
use Rattle.pres_hub.proofs.gate.OpenGate.TheSendSync.{the_sync as gate_is}
use Rattle.pres_hub.proofs.Crossing.{hub_sync}
use Rattle.pres_tcp.proofs.alarm.StreamBell.TheSendSync.{the_send as bell_is}
use Rattle.pres_tcp.proofs.stream_count.StreamCount.TheSendSync.{the_sync as crowd_is}
use Rattle.pres_tcp.proofs.health.Health.TheSendSync.{the_sync as health_is}
use Rattle.pres_tcp.proofs.Captures.{captures_send}
use Rattle.pres_tcp.proofs.serve.fn.accept_all.scope.Goals as goal

pub spawn-begun-requires-send-F : goal.spawn-begun-requires-send-F
spawn-begun-requires-send-F g c κs within = search (captures_send, hub_sync, stream_is, gate_is, bell_is, crowd_is, health_is, global_is, c.requires.1.1.1.1.1, shr_send, param_send, param_sync, arg_send) depth 60 fits 20000
