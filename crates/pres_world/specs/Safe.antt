-- What holds of every world that is reached.
use Rattle.std.specs.Prelude.{ℕ, ◌≡◌, ◌≤◌, ◌<◌, ◌⊎◌, length, take, List, [], ◌∷◌, ◌++◌, Some, None}
use Rattle.std.specs.FinMap.Entries.{put}
use Rattle.std.specs.List.{Contains}
use Rattle.pres_ids.specs.declared.id.SessionId.{SessionId}
use Rattle.pres_ids.specs.Ids.{ClientId, client_cmp}
use Rattle.pres_tree.specs.Paths.{Path}
use Rattle.pres_write.specs.declared.op.Op.{Op}
use Rattle.pres_write.specs.declared.outcome.Outcome.{Outcome}
use Rattle.pres_write.specs.declared.outcome.Kept.{Kept}
use Rattle.pres_write.specs.Outcomes.{kept_of}
use Rattle.pres_write.specs.declared.unconditional.Unconditional.{Unconditional}
use Rattle.pres_write.specs.Unconditionals.{puts_of}
use Rattle.pres_wire.specs.declared.up.Up.{Up}
use Rattle.pres_wire.specs.declared.up.Up.TheVariants as up
use Rattle.pres_wire.specs.Messages.{session_in, q_in}
use Rattle.pres_wire.specs.declared.down.Down.TheVariants.{Welcome, Reply, Gone, Armed, Denied, Snap, Push, OffDone, Fault}
use Rattle.pres_wire.specs.declared.down.Down.{Down}
use Rattle.pres_history.specs.Streams.{stream, welcome}
use Rattle.pres_log.specs.declared.entry.Entry.{Entry}
use Rattle.pres_log.specs.declared.entry.Entry.TheVariants as entry
use Rattle.pres_log.specs.Logs.{Stands, entries, item_at, tree}
use Rattle.pres_client.specs.Clients.{ClientState as Client, view}
use Rattle.pres_tree.specs.declared.scalar.Scalar.{Scalar}
use Rattle.pres_tree.specs.Rows.{Rows, value_at}
use Rattle.pres_world.specs.declared.event.Event.{Event}
use Rattle.pres_world.specs.declared.fault.WorldFault.{WorldFault}
use Rattle.pres_world.specs.Orderly.{WritesStand, SessionsStand, EndsStand, CancelsStand}
use Rattle.pres_world.specs.Worlds.{World, IsClient, IsStep, IsRefused, new_world}

-- what may happen to a world: an event, which may be refused, or what a client noted is handed out
pub data Occurrence : Type 0 where
  happens : Event → Occurrence
  hands_out : ClientId → Occurrence

-- what the client noted is handed out, where there is such a client
abbrev pub HandsOut : World → ClientId → World → Type 0
HandsOut w id v = (v ≡ w) ⊎ ((c : Client) × IsClient w id c × (v ≡ record w { clients = put client_cmp id (record c { notices = [] }) w.clients }))

abbrev pub Occurs : World → Occurrence → World → Type 0
Occurs w (happens e) v = IsStep w e v ⊎ ((f : WorldFault) × IsRefused w e v f)
Occurs w (hands_out id) v = HandsOut w id v

-- all of it, one after the other
abbrev pub Reaches : World → List Occurrence → World → Type 0
Reaches w [] v = v ≡ w
Reaches w (o ∷ later) v = (u : World) × Occurs w o u × Reaches u later v

-- a client sent the message
abbrev pub WasSent : List Up → Up → Type 0
WasSent ups m = (packet : ℕ) × (item_at ups packet ≡ Some m)

-- the entry was made of a message that a client sent, but for an end that no client asked for
abbrev pub CameFromMessage : List Up → Entry → Type 0
CameFromMessage ups (entry.Open s) = WasSent ups (up.Hello s)
CameFromMessage ups (entry.Op s q n op outcome) = WasSent ups (up.Op s q n op)
CameFromMessage ups (entry.Again s q n) = (op : Op) × WasSent ups (up.Op s q n op)
CameFromMessage ups (entry.Left s q placements) = (op : Unconditional) × WasSent ups (up.Left s q op) × (placements ≡ puts_of op)
CameFromMessage ups (entry.Cancelled s q p) = WasSent ups (up.Cancel s q p)
CameFromMessage ups (entry.Denied s q why) = (m : Up) × WasSent ups m × (session_in m ≡ s) × (q_in m ≡ Some q)
CameFromMessage ups (entry.On s q p) = WasSent ups (up.On s q p)
CameFromMessage ups (entry.Off s q p) = WasSent ups (up.Off s q p)
CameFromMessage ups (entry.Ended s None why rows) = Unit {0}
CameFromMessage ups (entry.Ended s (Some q) why rows) = WasSent ups (up.Bye s q)

-- Write n of the client of s, which it asked for by message q of the session, stands under this number as it was sent, and
-- came out so. Where it was sent again, the message that the entry was made of is another one with the same write, of the
-- same start of the client.
pub record StandsAs (w : World) (s : SessionId) (q n done : ℕ) (out : Kept) : Type 0 where
  pub session : SessionId
  pub first_q : ℕ
  pub op : Op
  pub outcome : Outcome
  pub stands : Stands w.serving.history done (entry.Op session first_q n op outcome)
  pub sent : WasSent w.ups (up.Op session first_q n op)
  pub client : session.client ≡ s.client
  pub start : session.incarnation ≡ s.incarnation
  pub asked : WasSent w.ups (up.Op s q n op)
  pub kept : kept_of outcome ≡ out

-- Write n, which a client asked for in session s, got its number before write m, which it asked for in session t: an
-- earlier start of the client gave it, or the same one, which counts its writes on.
abbrev pub IsEarlierWrite : SessionId → ℕ → SessionId → ℕ → Type 0
IsEarlierWrite s n t m = (s.incarnation < t.incarnation) ⊎ ((s.incarnation ≡ t.incarnation) × (n < m))

-- of two writes of one client whose replies were taken, the one that got its number earlier stands earlier
abbrev pub WritesInOrder : World → Type 0
WritesInOrder w = (s t : SessionId) (r r' z z' q p n m j k : ℕ) (out out' : Kept) → Contains w.acks (Reply s r z q n j out) → Contains w.acks (Reply t r' z' p m k out') → s.client ≡ t.client → IsEarlierWrite s n t m → j < k

-- what was sent as message q of the session, for its end or to take such back, stands under the number
abbrev pub StandsArmed : World → SessionId → ℕ → ℕ → Type 0
StandsArmed w s z q =
    ((op : Unconditional) × WasSent w.ups (up.Left s q op) × Stands w.serving.history z (entry.Left s q (puts_of op)))
    ⊎ ((p : Path) × WasSent w.ups (up.Cancel s q p) × Stands w.serving.history z (entry.Cancelled s q p))

-- two packets of one session with one number are one message
abbrev pub SameNumberSameMessage : List Up → Type 0
SameNumberSameMessage ups = (m k : Up) (q : ℕ) → WasSent ups m → WasSent ups k → session_in m ≡ session_in k → q_in m ≡ Some q → q_in k ≡ Some q → m ≡ k

-- two packets of one start of a client with one number of a write carry one operation
abbrev pub SameNumberSameOp : List Up → Type 0
SameNumberSameOp ups = (s t : SessionId) (q p n : ℕ) (o x : Op) → WasSent ups (up.Op s q n o) → WasSent ups (up.Op t p n x) → s.client ≡ t.client → s.incarnation ≡ t.incarnation → o ≡ x

-- the entries send it to its session: the Welcome of the session's opening, or the message of its stream with this
-- number
abbrev pub IsInTranscript : List Entry → Down → Type 0
IsInTranscript es (Welcome s z ops) = (before : List Entry) × (later : List Entry) × (es ≡ before ++ entry.Open s ∷ later) × (Welcome s z ops ≡ welcome s (before ++ entry.Open s ∷ []))
IsInTranscript es (Reply s r z q n done out) = item_at (stream s es) r ≡ Some (Reply s r z q n done out)
IsInTranscript es (Gone s r z why) = item_at (stream s es) r ≡ Some (Gone s r z why)
IsInTranscript es (Armed s r z q) = item_at (stream s es) r ≡ Some (Armed s r z q)
IsInTranscript es (Denied s r z q why) = item_at (stream s es) r ≡ Some (Denied s r z q why)
IsInTranscript es (Snap s r z q p v) = item_at (stream s es) r ≡ Some (Snap s r z q p v)
IsInTranscript es (Push s r z values) = item_at (stream s es) r ≡ Some (Push s r z values)
IsInTranscript es (OffDone s r z q) = item_at (stream s es) r ≡ Some (OffDone s r z q)
IsInTranscript es (Fault session code) = Unit {0}

-- what a client shows of a path, at the server's number z, is what stood there after z entries
abbrev pub ViewsShowHistory : World → Type 0
ViewsShowHistory w = (id : ClientId) (c : Client) → IsClient w id c → (p : Path) (z : ℕ) (v : Rows Scalar) → view p c ≡ Some (z, v) → (z ≤ length (entries w.serving.history)) × (v ≡ value_at p (tree (take z (entries w.serving.history))))

-- two clients' values of one path with the same number are equal
abbrev pub ViewsAgree : World → Type 0
ViewsAgree w = (i j : ClientId) (c d : Client) → IsClient w i c → IsClient w j d → (p : Path) (z : ℕ) (u v : Rows Scalar) → view p c ≡ Some (z, u) → view p d ≡ Some (z, v) → u ≡ v

-- Each write whose reply a client took stands where the reply says, as that start of the client asked for it, and came
-- out as the reply says; of two such writes of one client the one that got its number earlier stands earlier, earlier
-- starts first. Each action for a session's end, and each cancel, that was acknowledged stands as it was sent. All that
-- clients took is what the history tells their sessions, and what they show of a path is what stood there at its number,
-- so that two of them agree. All that stands there was sent; a session's packets with one number are one message, and
-- those of one start of a client with one number of a write carry one operation. Each write stands once, in its client's
-- order, and the entries of a client stand in the order of its sessions. And each session ends once, by all that is due
-- and nothing that was cancelled, before any entry of a later session of its client.
pub record IsSafe (w : World) : Type 0 where
  pub acknowledged : (s : SessionId) (r z q n done : ℕ) (out : Kept) → Contains w.acks (Reply s r z q n done out) → StandsAs w s q n done out
  pub in_order : WritesInOrder w
  pub armed : (s : SessionId) (r z q : ℕ) → Contains w.acks (Armed s r z q) → StandsArmed w s z q
  pub told : (m : Down) → Contains w.acks m → IsInTranscript (entries w.serving.history) m
  pub sent : (k : ℕ) (e : Entry) → Stands w.serving.history k e → CameFromMessage w.ups e
  pub numbered : SameNumberSameMessage w.ups
  pub repeats : SameNumberSameOp w.ups
  pub views : ViewsShowHistory w
  pub agree : ViewsAgree w
  pub writes : WritesStand w.serving.history
  pub sessions : SessionsStand w.serving.history
  pub ends : EndsStand w.serving.history
  pub cancels : CancelsStand w.serving.history

-- whatever happened to a new world, it is safe
abbrev pub StaysSafe : List ClientId → List Occurrence → World → Type 0
StaysSafe ids occurrences v = Reaches (new_world ids) occurrences v → IsSafe v
