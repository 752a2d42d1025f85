-- What a connection holds may cross threads: each type from those of its parts.
use denote.Param.Send.{IsSend, IsSync, sendable}
use denote.Param.SendFields.{declared_send, as_row_send, declared_sync, as_row_sync}
use denote.RattleType.{RattleType}
use denote.Ref.{NamedLft}
use Rattle.std.proofs.Crossing.{crosses, send as global_is, sync as global_shared}
use Rattle.std.specs.declared.sync.ledger.Ledger as ledger
use Rattle.tungstenite.proofs.protocol.WebSocket.TheSendSync.{the_send as socket_is}
use Rattle.pres_accounting.proofs.seat.Seat.TheSendSync.{the_send as seat_is}
use Rattle.pres_hub.proofs.Crossing.{outbox_send, hub_sync}
use Rattle.pres_websocket.proofs.fault.SockFault.TheSendSync.{the_send as fault_is}
use Rattle.pres_websocket.proofs.meter.Metered.TheSendSync.{the_send as metered_is}
use Rattle.pres_websocket.proofs.socket.Received.TheSendSync.{the_send as came_is}
use Rattle.pres_sock.specs.contracts.joined_session.JoinedSession as place
use Rattle.pres_sock.specs.contracts.joined_session.HubAccess as visit
use Rattle.pres_sock.specs.contracts.serve.Served as served
use Rattle.pres_sock.specs.contracts.serve.Arrival as arrival
use Rattle.pres_sock.specs.contracts.serve.Begun as begun
use Rattle.pres_sock.specs.contracts.serve.Waking as waking

module _ (L : RattleType) (l : ledger.Ghosts L.Denot) where
  pub place_send : IsSend (place.the_row L l)
  place_send = search (seat_is, outbox_send, declared_send, crosses, sendable) depth 60 fits 20000

module _ (L B S : RattleType) (l : ledger.Ghosts L.Denot) where
  pub served_send : IsSend B → IsSend S → IsSend (served.the_row L B S l)
  served_send b s = search (place_send, fault_is, socket_is, metered_is, global_is, declared_send, as_row_send, crosses, sendable) depth 60 fits 20000

pub visit_sync : (α : NamedLft) (L K B G R : RattleType) (l : _) (g : _) → IsSend K → IsSend B → IsSync G → IsSync R → IsSync (visit.the_row α L K B G R l g)
visit_sync α L K B G R l g k b y r = search (hub_sync, global_shared, declared_sync, as_row_sync, crosses, sendable) depth 60 fits 20000

pub arrival_send : (α : NamedLft) (L K B G R S C : RattleType) (l : _) (g : _) → IsSend K → IsSend B → IsSync G → IsSync R → IsSend S → IsSend C → IsSend (arrival.the_row α L K B G R S C l g)
arrival_send α L K B G R S C l g k b y r s c = search (visit_sync, declared_send, as_row_send, crosses, sendable) depth 60 fits 20000

pub waking_send : (α : NamedLft) (L K B G R S C : RattleType) (l : _) (g : _) → IsSend K → IsSend B → IsSync G → IsSync R → IsSend S → IsSend C → IsSend (waking.the_row α L K B G R S C l g)
waking_send α L K B G R S C l g k b y r s c = search (visit_sync, served_send, came_is, declared_send, as_row_send, crosses, sendable) depth 60 fits 20000

-- what the first work for a connection gives
pub begun_send : (L B S : RattleType) (l : ledger.Ghosts L.Denot) → IsSend B → IsSend S → IsSend (begun.the_row L B S l)
begun_send L B S l b s = search (served_send, fault_is, declared_send, as_row_send, crosses, sendable) depth 60 fits 20000
