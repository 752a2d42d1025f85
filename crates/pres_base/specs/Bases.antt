-- Bases: what a server is after a log, as plain data. Not all data is a base; that it is one doesn't say that there is a
-- legal log with that sum.
use Rattle.std.specs.Prelude.{◌≡◌, ◌≤◌, ◌+◌, ◌-◌, ◌*◌, ◌^◌, ◌&&◌, ℕ, Bool, true, IsTrue, nat_lt, nat_le, List, [], ◌∷◌, All, map, length, Option, Some}
use Rattle.std.specs.List.Sorted.{IsStrictlySortedBy}
use Rattle.std.specs.FinMap.Entries.{find}
use Rattle.pres_tree.specs.Paths.{path_cmp}
use Rattle.pres_write.specs.Moments.{last_moment}
use Rattle.pres_ids.specs.declared.id.Stamp.{Stamp}
use Rattle.pres_ids.specs.Ids.{ClientId, client_cmp, stamp_of}
use Rattle.pres_retry.specs.declared.table.Row.{Row}
use Rattle.pres_plan.specs.Plans.{IsPlan}
use Rattle.pres_fan.specs.Listeners.{most_paths}
use Rattle.pres_base.specs.declared.parts.ClientPart.{ClientPart}
use Rattle.pres_base.specs.declared.parts.SessionPart.{SessionPart}
use Rattle.pres_base.specs.declared.parts.BaseParts.{BaseParts}

-- ---- the parts of a base

-- each write was done after the one before it, the first one after number `after`, and none after number `last`
abbrev pub are_done : ℕ → ℕ → List Row → Bool
are_done after last [] = true
are_done after last (row ∷ later) = nat_lt after row.done && nat_le row.done last && are_done row.done last later

-- the stamp of the client's last session
abbrev pub last_in : ClientId → List ClientPart → Option Stamp
last_in client clients = find client_cmp client (map (λ c. (c.id, c.last)) clients)

-- what holds of an open session, after this many entries
pub record IsOpenPart (number : ℕ) (s : SessionPart) : Type 0 where
  -- the places are in path order, each once
  pub listens : IsStrictlySortedBy path_cmp s.listens
  pub few_listens : length s.listens ≤ most_paths
  -- the rows are few, in the order of their messages and paths; none is at the path of a later one or below it, and for
  -- each that keeps its place a put writes a draft above it
  pub plan : IsPlan s.plan
  -- each was asked for by a message of the session
  pub asked : All (λ row. row.q ≤ s.q) s.plan
  -- each message made an entry
  pub q : s.q ≤ number
  -- an entry sends it a Push and an answer at the most
  pub r : s.r ≤ 2 * number

-- the most sessions that may be open
abbrev pub most_sessions : ℕ
most_sessions = 1024

-- ---- bases

pub record IsBase (p : BaseParts) : Type 0 where
  -- clients stand in byte order, each once
  pub clients : IsStrictlySortedBy client_cmp (map (λ c. c.id) p.clients)
  -- so do sessions, by their clients
  pub sessions : IsStrictlySortedBy client_cmp (map (λ s. s.session.client) p.sessions)
  -- writes were done one after another, from number 1 on
  pub answers : All (λ c. IsTrue (are_done 0 p.number c.rows)) p.clients
  -- an open session is its client's last one
  pub last : All (λ s. last_in s.session.client p.clients ≡ Some (stamp_of s.session)) p.sessions
  pub each : All (IsOpenPart p.number) p.sessions
  pub few : length p.sessions ≤ most_sessions
  -- each batch has an entry
  pub batches : p.batches ≤ p.number
  -- a number is left for the end of each open session
  pub room : p.number + length p.sessions ≤ 2 ^ 52 - 1
  pub moment : p.moment ≤ last_moment
