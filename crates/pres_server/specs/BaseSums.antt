-- The sum that a base stands for, and what holds of it.
use Rattle.std.specs.Prelude.{◌≡◌, ℕ, Bool, not, is_some, All, List, map}
use Rattle.std.specs.List.{flat_map}
use Rattle.std.specs.FinMap.Entries.{find, where_key}
use Rattle.pres_ids.specs.declared.id.Stamp.{Stamp}
use Rattle.pres_ids.specs.Ids.{ClientId, client_cmp, stamp_of}
use Rattle.pres_plan.specs.Plans.{IsPlan}
use Rattle.pres_fan.specs.declared.listeners.Listener.{Listener}
use Rattle.pres_fan.specs.Listeners.{listener_of}
use Rattle.pres_base.specs.declared.parts.SessionPart.{SessionPart}
use Rattle.pres_base.specs.declared.parts.BaseParts.{BaseParts}
use Rattle.pres_base.specs.Bases.{IsBase}
use Rattle.pres_base.specs.AnswersApart.{answers_for, parts_above}
use Rattle.pres_server.specs.Sums.{Sum, OpenSession, OpenSessions}
use Rattle.pres_server.specs.Histories.{IsSum}

-- ---- the sum of a base

-- an open session of the base, as a sum has it
abbrev pub open_for : SessionPart → OpenSession
open_for s = record { stamp = stamp_of s.session; count = s.q; sent = s.r; plan = s.plan }

-- the open sessions by client
abbrev pub sessions_for : BaseParts → OpenSessions
sessions_for p = map (λ s. (s.session.client, open_for s)) p.sessions

-- no session of the client is open
abbrev pub is_gone_for : BaseParts → ClientId → Bool
is_gone_for p client = not (is_some (find client_cmp client (sessions_for p)))

-- the stamps of the last sessions that are gone, of clients that have none open
abbrev pub gone_for : BaseParts → List (ClientId × Stamp)
gone_for p = where_key client_cmp (is_gone_for p) (map (λ c. (c.id, c.last)) p.clients)

-- who listens to what
abbrev pub listeners_for : List SessionPart → List Listener
listeners_for sessions = flat_map (λ s. map (listener_of s.session) s.listens) sessions

-- the sum that the parts stand for
abbrev pub sum_for : BaseParts → Sum
sum_for p = record {
  batches = p.batches;
  moment = p.moment;
  number = p.number;
  tree = p.tree;
  rows = answers_for p.clients;
  gone = gone_for p;
  sessions = sessions_for p;
  listeners = listeners_for p.sessions;
}

-- these are the parts of a base with the sum, with the answers alone that were made after the number
pub record IsBaseAbove (number : ℕ) (sum : Sum) (parts : BaseParts) : Type 0 where
  -- the base with all answers
  pub whole : BaseParts
  pub is_base : IsBase whole
  pub has_sum : sum_for whole ≡ sum
  pub above : parts ≡ parts_above number whole

-- ---- what holds of it

-- what holds of every server's sum, and what its plans are
pub record IsKept (sum : Sum) : Type 0 where
  pub holds : IsSum sum
  -- what an open session leaves is a plan
  pub plans : All (λ e. IsPlan e.1.plan) sum.sessions

-- A base's sum is one that a server may have.
abbrev pub BaseIsKept : BaseParts → Type 0
BaseIsKept p = IsBase p → IsKept (sum_for p)

-- What holds of every server's sum holds of the sum of a base.
abbrev pub BaseHasSum : BaseParts → Type 0
BaseHasSum p = IsBase p → IsSum (sum_for p)
