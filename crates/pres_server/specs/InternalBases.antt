-- The parts of a sum's base, and an index that is made from a base.
use Rattle.std.specs.Prelude.{◌≡◌, ℕ, nat_lt, List, map, length, if◌then◌else◌}
use Rattle.std.specs.Map.{keys_of}
use Rattle.std.specs.List.Sorted.{IsStrictlySortedBy}
use Rattle.std.specs.FinMap.Entries.{find, put}
use Rattle.pres_ids.specs.declared.id.Stamp.{Stamp}
use Rattle.pres_ids.specs.Ids.{ClientId, client_cmp, stamp_of}
use Rattle.pres_retry.specs.declared.table.Row.{Row}
use Rattle.pres_retry.specs.Tables.{Table, rows_of}
use Rattle.pres_retry.specs.Above.{rows_above}
use Rattle.pres_fan.specs.declared.listeners.Listener.{Listener}
use Rattle.pres_fan.specs.Listeners.{paths_of}
use Rattle.pres_base.specs.declared.parts.ClientPart.{ClientPart}
use Rattle.pres_base.specs.declared.parts.SessionPart.{SessionPart}
use Rattle.pres_base.specs.declared.parts.BaseParts.{BaseParts}
use Rattle.pres_server.specs.declared.index.Index.{Index}
use Rattle.pres_server.specs.InternalParts.{session_with}
use Rattle.pres_server.specs.InternalSessions.{Session, last_stamp}
use Rattle.pres_server.specs.InternalIndex.{session_at, gone_at}
use Rattle.pres_server.specs.Sums.{Sum, OpenSession, part_in}

-- ---- the base of a sum

-- a client, with the stamp of its last session
abbrev pub client_part : Table → ClientId × Stamp → ClientPart
client_part table e = record { id = e.0; last = e.1; rows = rows_of e.0 table }

-- the same, with the answers alone that were made after the number
abbrev pub client_part_above : ℕ → Table → ClientId × Stamp → ClientPart
client_part_above number table e = record { id = e.0; last = e.1; rows = rows_above number (rows_of e.0 table) }

-- an open session of a client
abbrev pub session_part : List Listener → ClientId × OpenSession → SessionPart
session_part listeners e = record { session = session_with e.0 e.1.stamp; q = e.1.count; r = e.1.sent; listens = paths_of (session_with e.0 e.1.stamp) listeners; plan = e.1.plan }

-- the parts of the sum's base; the last stamps are those of its clients
abbrev pub parts_of : Sum → List (ClientId × Stamp) → BaseParts
parts_of sum lasts = record {
  batches = sum.batches;
  moment = sum.moment;
  number = sum.number;
  tree = sum.tree;
  clients = map (client_part sum.rows) lasts;
  sessions = map (session_part sum.listeners) sum.sessions;
}

-- these are the last stamps of the clients that had a session, in byte order
pub record AreLasts (sum : Sum) (lasts : List (ClientId × Stamp)) : Type 0 where
  pub ordered : IsStrictlySortedBy client_cmp (keys_of lasts)
  pub found : (client : ClientId) → find client_cmp client lasts ≡ (part_in sum client).last

-- as an index has them
pub record AreLastsAt (index : Index) (lasts : List (ClientId × Stamp)) : Type 0 where
  pub ordered : IsStrictlySortedBy client_cmp (keys_of lasts)
  pub found : (client : ClientId) → find client_cmp client lasts ≡ last_stamp (session_at index client) (gone_at index client)

-- ---- the index of a base

-- the last stamps of the clients of a base
abbrev pub lasts_in : List ClientPart → List (ClientId × Stamp)
lasts_in clients = map (λ c. (c.id, c.last)) clients

-- the table with the answers of a client that has none there, where it has any
abbrev pub with_answers : ClientId → List Row → Table → Table
with_answers client answers table = if nat_lt 0 (length answers) then put client_cmp client answers table else table

-- an open session that goes on, whose client counts as heard of at the moment
abbrev pub reopened : ℕ → SessionPart → Session
reopened moment s = record { stamp = stamp_of s.session; count = s.q; sent = s.r; heard = moment; plan = s.plan }

abbrev pub live_in : ℕ → List SessionPart → List (ClientId × Session)
live_in moment sessions = map (λ s. (s.session.client, reopened moment s)) sessions
