-- A world: one server, its clients, and the packets between them. Packets are never forgotten: any of them may come any
-- number of times, in any order, or never.
use Rattle.std.specs.Prelude.{◌≡◌, ◌≢◌, ◌⊎◌, ℕ, List, [], ◌∷◌, ◌++◌, fold, Some, None}
use Rattle.std.specs.FinMap.Entries.{find, put}
use Rattle.pres_ids.specs.Ids.{ClientId, client_cmp}
use Rattle.pres_ids.specs.declared.id.SessionId.{SessionId}
use Rattle.pres_wire.specs.declared.up.Up.{Up}
use Rattle.pres_wire.specs.declared.down.Down.{Down}
use Rattle.pres_wire.specs.Messages.{session_for}
use Rattle.pres_log.specs.Logs.{item_at}
use Rattle.pres_server.specs.Sums.{nothing}
use Rattle.pres_server.specs.declared.input.Input.TheVariants as input
use Rattle.pres_history.specs.ServerStates.{blank}
use Rattle.pres_client.specs.declared.call.Call.{Call}
use Rattle.pres_client.specs.declared.fault.ClientFault.{ClientFault}
use Rattle.pres_client.specs.Calls.{refusal, after_call}
use Rattle.pres_client.specs.Clients.{ClientState as Client, start}
use Rattle.pres_client.specs.ReceivedMessages.{after_receive}
use Rattle.pres_world.specs.declared.event.Event.{Event}
use Rattle.pres_world.specs.declared.event.Event.TheVariants as event
use Rattle.pres_world.specs.declared.event.Ending.{Ending}
use Rattle.pres_world.specs.declared.event.Ending.TheVariants as ending
use Rattle.pres_world.specs.declared.fault.WorldFault.{WorldFault}
use Rattle.pres_world.specs.declared.fault.WorldFault.TheVariants as fault
use Rattle.pres_world.specs.WorldClients.{handed_out, acknowledged, started_again}
use Rattle.pres_world.specs.ServerSides.{ServerSideState, served, lost, open_on, checkpointed, IsRestarted}

-- the clients with their ids, in byte order
abbrev pub Clients : Type 0
Clients = List (ClientId × Client)

-- the server and what it sent, the clients, what these sent, and what they took: Welcomes and messages of their streams
pub record World : Type 0 where
  pub serving : ServerSideState
  pub clients : Clients
  pub ups : List Up
  pub acks : List Down

-- a client that starts for the first time
abbrev pub joined : Clients → ClientId → Clients
joined clients id = put client_cmp id (start id 1) clients

-- nothing happened so far
abbrev pub new_world : List ClientId → World
new_world ids = record { serving = record { server = Some blank; base = nothing; history = []; downs = [] }; clients = fold joined [] ids; ups = []; acks = [] }

-- the client with the id is this one
abbrev pub IsClient : World → ClientId → Client → Type 0
IsClient w id c = find client_cmp id w.clients ≡ Some c

-- it became this one, and what it had to send are packets
abbrev pub becomes : World → ClientId → Client → World
becomes w id c = record w { clients = put client_cmp id (handed_out c) w.clients; ups = w.ups ++ c.sends }

-- the client makes the call
pub record IsCall (w : World) (id : ClientId) (k : Call) (v : World) : Type 0 where
  pub client : Client
  pub there : IsClient w id client
  pub accepted : refusal client k ≡ None
  pub after : v ≡ becomes w id (after_call client k)

-- the packet arrives at the client that it is for
pub record IsDelivery (w : World) (packet : ℕ) (v : World) : Type 0 where
  pub message : Down
  pub session : SessionId
  pub client : Client
  pub sent : item_at w.serving.downs packet ≡ Some message
  pub goes_to : session_for message ≡ Some session
  pub there : IsClient w session.client client
  pub after : v ≡ (let u = becomes w session.client (after_receive client message) in record u { acks = w.acks ++ acknowledged client message })

-- the client's program starts again
pub record IsStart (w : World) (id : ClientId) (v : World) : Type 0 where
  pub client : Client
  pub there : IsClient w id client
  pub after : v ≡ record w { clients = put client_cmp id (started_again id client) w.clients }

-- the packet arrives at the server at the moment
abbrev pub IsArrival : World → ℕ → ℕ → Ending → World → Type 0
IsArrival w packet now e v = (m : Up) × (item_at w.ups packet ≡ Some m) × (v ≡ record w { serving = served w.serving (input.Up m) now e })

-- the server hears that the connection of the client's open session is lost
abbrev pub IsLoss : World → ClientId → ℕ → Ending → World → Type 0
IsLoss w id now e v = (find client_cmp id w.clients ≢ None) × (v ≡ record w { serving = lost (open_on w.serving.server id) w.serving now e })

-- the server starts again
abbrev pub IsRestart : World → ℕ → World → Type 0
IsRestart w now v = (s : ServerSideState) × IsRestarted w.serving now s × (v ≡ record w { serving = s })

-- the event takes the world w to v
abbrev pub IsStep : World → Event → World → Type 0
IsStep w (event.Call id k) v = IsCall w id k v
IsStep w (event.Up packet now e) v = IsArrival w packet now e v
IsStep w (event.Down packet) v = IsDelivery w packet v
IsStep w (event.Loss id now) v = IsLoss w id now ending.Answered v
IsStep w (event.Tick now) v = v ≡ record w { serving = served w.serving input.Tick now ending.Answered }
IsStep w (event.RestartClient id) v = IsStart w id v
IsStep w (event.RestartServer now) v = IsRestart w now v
IsStep w event.Checkpoint v = v ≡ record w { serving = checkpointed w.serving }

-- there is no such packet or client
abbrev pub Lacks : World → Event → Type 0
Lacks w (event.Call id k) = find client_cmp id w.clients ≡ None
Lacks w (event.Up packet now e) = item_at w.ups packet ≡ None
Lacks w (event.Down packet) = (c : Client) (m : Down) (s : SessionId) → item_at w.serving.downs packet ≡ Some m → session_for m ≡ Some s → IsClient w s.client c → ⊥
Lacks w (event.Loss id now) = find client_cmp id w.clients ≡ None
Lacks w (event.Tick now) = ⊥
Lacks w (event.RestartClient id) = find client_cmp id w.clients ≡ None
Lacks w (event.RestartServer now) = ⊥
Lacks w event.Checkpoint = ⊥

-- the client refuses the call
abbrev pub Refuses : World → Event → ClientFault → Type 0
Refuses w (event.Call id k) f = (c : Client) × IsClient w id c × (refusal c k ≡ Some f)
Refuses w _ f = ⊥

-- the server stops with its turn, as where it is stopped after the commit
abbrev pub IsStop : World → Event → World → Type 0
IsStop w (event.Up packet now e) v = IsArrival w packet now ending.Stopped v
IsStop w (event.Loss id now) v = IsLoss w id now ending.Stopped v
IsStop w (event.Tick now) v = v ≡ record w { serving = served w.serving input.Tick now ending.Stopped }
IsStop w _ v = ⊥

-- A refused event changes nothing, except where memory is refused after the commit: then the server has stopped.
abbrev pub IsRefused : World → Event → World → WorldFault → Type 0
IsRefused w e v fault.Memory = (v ≡ w) ⊎ IsStop w e v
IsRefused w e v fault.NoSuch = (v ≡ w) × Lacks w e
IsRefused w e v (fault.Client f) = (v ≡ w) × Refuses w e f

-- the events take the world w to v, one after the other
abbrev pub RunsTo : World → List Event → World → Type 0
RunsTo w [] v = v ≡ w
RunsTo w (e ∷ later) v = (u : World) × IsStep w e u × RunsTo u later v

-- the events up to one take the world w to u, and that one is refused
pub record IsCutShort (w : World) (events : List Event) (v : World) (f : WorldFault) : Type 0 where
  pub done : List Event
  pub refused : Event
  pub later : List Event
  pub parts : events ≡ done ++ refused ∷ later
  pub reached : World
  pub reaches : RunsTo w done reached
  pub refusal : IsRefused reached refused v f
