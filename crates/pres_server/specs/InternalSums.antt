-- The sum that an index makes, and what a sum asks of the entries that it takes in.
use Rattle.std.specs.Prelude.{◌≡◌, ◌<◌, ℕ, ◌+◌, ◌^◌, Bool, not, is_some, IsTrue, List, [], ◌∷◌, map, length, Option, Some, None, if◌then◌else◌}
use Rattle.std.specs.Option.{option_map}
use Rattle.std.specs.FinMap.Entries.{find, where_key}
use Rattle.pres_ids.specs.declared.id.Stamp.{Stamp}
use Rattle.pres_ids.specs.Ids.{ClientId, client_cmp, stamp_of}
use Rattle.pres_log.specs.declared.entry.Entry.{Entry}
use Rattle.pres_log.specs.declared.entry.Entry.TheVariants as entry
use Rattle.pres_server.specs.declared.index.Index.{Index}
use Rattle.pres_server.specs.Sessions.{session_of}
use Rattle.pres_server.specs.InternalParts.{comes_after}
use Rattle.pres_server.specs.InternalSessions.{Session}
use Rattle.pres_server.specs.InternalIndex.{session_at, gone_at}
use Rattle.pres_server.specs.InternalFollows.{MayComeBy}
use Rattle.pres_server.specs.Sums.{Sum, OpenSession, OpenSessions, part_in, paths_in, sum_after}
use Rattle.pres_server.specs.Histories.{Keeps}

-- ---- the sum of an index

-- an open session of the index, as the sum has it
abbrev pub open_of : Session → OpenSession
open_of session = record { stamp = session.stamp; count = session.count; sent = session.sent; plan = session.plan }

-- the open sessions by client
abbrev pub sessions_in : Index → OpenSessions
sessions_in index = map (λ e. (e.0, open_of e.1)) index.places.live.entries

-- no session of the client is open
abbrev pub is_gone : Index → ClientId → Bool
is_gone index client = not (is_some (session_at index client))

-- the stamps of those that are gone, of clients that have none open
abbrev pub gone_in : Index → List (ClientId × Stamp)
gone_in index = where_key client_cmp (is_gone index) index.places.gone.entries

-- the sum of an index with this many batches and entries, of which the last was made at the moment
abbrev pub sum_in : ℕ → ℕ → ℕ → Index → Sum
sum_in batches moment number index = record {
  batches = batches;
  moment = moment;
  number = number;
  tree = index.tree;
  rows = index.retry;
  gone = gone_in index;
  sessions = sessions_in index;
  listeners = index.listeners;
}

-- the sum says of each client, and of the tree, what the index says
pub record Agrees (index : Index) (sum : Sum) : Type 0 where
  pub sessions : (client : ClientId) → find client_cmp client sum.sessions ≡ option_map open_of (session_at index client)
  pub gone : (client : ClientId) → find client_cmp client sum.gone ≡ (if is_some (session_at index client) then None else gone_at index client)
  pub rows : sum.rows ≡ index.retry
  pub listeners : sum.listeners ≡ index.listeners
  pub tree : sum.tree ≡ index.tree

-- ---- the entries that it takes in

-- the entry may come, but for the limit on open sessions
abbrev pub MayEnter : Sum → ℕ → Entry → Type 0
MayEnter sum m (entry.Open s) = IsTrue (comes_after (part_in sum s.client).last (stamp_of s)) × ((part_in sum s.client).live ≡ None)
MayEnter sum m e = MayComeBy (part_in sum (session_of e).client) (paths_in sum (session_of e)) (length sum.sessions) sum.tree m e

-- each of them, one after another
abbrev pub MayEnterAll : Sum → ℕ → List Entry → Type 0
MayEnterAll sum m [] = Unit {0}
MayEnterAll sum m (e ∷ more) = MayEnter sum m e × MayEnterAll (sum_after e sum) m more

-- entries that may come one after another, from entry number z on, after those of the sum
pub record MayTakeFrom (sum : Sum) (z moment : ℕ) (more : List Entry) (index : Index) : Type 0 where
  pub agrees : Agrees index sum
  pub keeps : Keeps sum
  pub next : z ≡ sum.number + 1
  pub in_turn : MayEnterAll sum moment more
  pub room : sum.number + length more < 2 ^ 52
