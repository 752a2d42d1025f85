-- What the log says of each client: plain data, changed by one entry.
use Rattle.std.specs.Prelude.{ℕ, ◌+◌, ◌≡◌, true, List, [], ◌∷◌, ◌++◌, length, Option, Some, None}
use Rattle.std.specs.List.{list_any}
use Rattle.std.specs.Option.{option_map}
use Rattle.pres_write.specs.Outcomes.{kept_of}
use Rattle.pres_ids.specs.declared.id.Stamp.{Stamp}
use Rattle.pres_ids.specs.declared.id.SessionId.{SessionId}
use Rattle.pres_ids.specs.Ids.{ClientId, stamp_of}
use Rattle.pres_retry.specs.declared.table.Row.{Row}
use Rattle.pres_log.specs.declared.entry.Entry.{Entry}
use Rattle.pres_log.specs.declared.entry.Entry.TheVariants as entry
use Rattle.pres_server.specs.InternalParts.{LivePart, Part, plan_after, comes_after, listed, IsAsked}
use Rattle.pres_history.specs.Sessions.{opens, ends, count, open_sessions_of, is_newest, last_of}
use Rattle.pres_history.specs.Outcomes.{rows_for}
use Rattle.pres_history.specs.SessionPlans.{plan}
use Rattle.pres_history.specs.Streams.{stream}

abbrev pub live_in : List SessionId → List Entry → Option LivePart
live_in [] es = None
live_in (s ∷ more) es = Some (record { stamp = stamp_of s; count = count s es; plan = plan s es })

-- what the log says
abbrev pub part_of : ClientId → List Entry → Part
part_of c es = record { last = last_of c es; rows = rows_for c es; live = live_in (open_sessions_of c es) es }

-- how many messages were sent to the open session of a client
abbrev pub sent_in : List SessionId → List Entry → Option ℕ
sent_in [] es = None
sent_in (s ∷ more) es = Some (length (stream s es))

abbrev pub sent_of : ClientId → List Entry → Option ℕ
sent_of c es = sent_in (open_sessions_of c es) es

-- an open session after an entry of its own that answers it
abbrev pub one_more : Entry → LivePart → LivePart
one_more e l = record { stamp = l.stamp; count = l.count + 1; plan = plan_after e l.plan }

abbrev pub live_step : Entry → Option LivePart → Option LivePart
live_step (entry.Open s) live = Some (record { stamp = stamp_of s; count = 0; plan = [] })
live_step (entry.Ended s q why rows) live = None
live_step e live = option_map (one_more e) live

abbrev pub last_step : Entry → Option Stamp → Option Stamp
last_step (entry.Open s) last = Some (stamp_of s)
last_step _ last = last

abbrev pub rows_step : ℕ → Entry → List Row → List Row
rows_step z (entry.Op s q n op outcome) rows = rows ++ record { done = z; kept = kept_of outcome } ∷ []
rows_step z _ rows = rows

-- what entry number z of the client makes of its part
abbrev pub part_step : ℕ → Entry → Part → Part
part_step z e p = record { last = last_step e p.last; rows = rows_step z e p.rows; live = live_step e p.live }

-- what is so after every legal log
pub record Sound (es : List Entry) : Type 0 where
  -- at most one session of a client is open
  pub one_open : (c : ClientId) → open_sessions_of c es ≡ listed c (live_in (open_sessions_of c es) es)
  -- the last session of a client is its newest
  pub newest : (s : SessionId) → is_newest s es ≡ comes_after (last_of s.client es) (stamp_of s)
  -- what has ended was opened
  pub ended : (s : SessionId) → list_any (ends s) es ≡ true → list_any (opens s) es ≡ true
  -- what an open session leaves was asked for by its messages so far
  pub asked : (c : ClientId) → IsAsked (part_of c es).live
