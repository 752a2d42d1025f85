-- A client as plain data: what it waits for, what it shows, and what its caller has not taken yet.
use Rattle.std.specs.Prelude.{◌≡◌, ◌+◌, ◌≤◌, ℕ, Bool, true, false, List, [], length, max, Option, Some, None, if◌then◌else◌, unwrap_or, nat_le}
use Rattle.pres_tree.specs.declared.scalar.Scalar.{Scalar}
use Rattle.pres_tree.specs.Paths.{Path}
use Rattle.pres_tree.specs.Rows.{Rows}
use Rattle.pres_ids.specs.declared.id.SessionId.{SessionId}
use Rattle.pres_wire.specs.declared.up.Up.{Up}
use Rattle.pres_ids.specs.Ids.{ClientId}
use Rattle.pres_ids.specs.Numbers.{greatest_number}
use Rattle.pres_client_state.specs.Queues.{messages, count_writes}
use Rattle.pres_client_state.specs.Watches.{Watches, watch_of, watched_at}
use Rattle.pres_client_state.specs.Asks.{Asks}
use Rattle.pres_client.specs.declared.client.Phase.{Phase}
use Rattle.pres_client.specs.declared.client.Phase.TheVariants as phase
use Rattle.pres_client_state.specs.declared.queued.Queued.{Queued}
use Rattle.pres_client_state.specs.declared.notice.Notice.{Notice}

pub record ClientState : Type 0 where
  -- the session of the last Hello; before the first one, the session that it will ask for
  pub session : SessionId
  -- how many sessions were asked for
  pub attempts : ℕ
  pub phase : Phase
  -- how many writes the server had carried out for the client at the first Welcome that was taken
  pub base : Option ℕ
  -- how many writes were made, how many of them went out, and how many were answered
  pub made : ℕ
  pub sent : ℕ
  pub answered : ℕ
  -- how many messages of this session were answered, how many of its stream were taken, and the server's number in the last
  pub heard : ℕ
  pub taken : ℕ
  pub seen : ℕ
  -- the last request
  pub requests : ℕ
  -- the messages of the session without an answer; while none is open, the writes without one
  pub queue : List Queued
  pub watches : Watches
  pub asks : Asks
  -- what was not handed out yet
  pub sends : List Up
  pub notices : List Notice

-- a new incarnation of the client
abbrev pub start : ClientId → ℕ → ClientState
start client incarnation =
    record {
      session = record { client = client; incarnation = incarnation; attempt = 1 };
      attempts = 0;
      phase = phase.Off;
      base = None;
      made = 0;
      sent = 0;
      answered = 0;
      heard = 0;
      taken = 0;
      seen = 0;
      requests = 0;
      queue = [];
      watches = [];
      asks = [];
      sends = [];
      notices = [];
    }

abbrev pub is_online : Phase → Bool
is_online phase.Online = true
is_online phase.Opening = false
is_online phase.Off = false

abbrev pub is_opening : Phase → Bool
is_opening phase.Opening = true
is_opening phase.Online = false
is_opening phase.Off = false

-- the session of the last Hello, while it is open or being opened
abbrev pub session_of : ClientState → Option SessionId
session_of c = if is_online c.phase then Some c.session else (if is_opening c.phase then Some c.session else None)

abbrev pub base_of : ClientState → ℕ
base_of c = unwrap_or c.base 0

-- ---- messages that wait for their answers

-- the messages of the session without an answer, with their numbers
abbrev pub outstanding : ClientState → List Up
outstanding c = messages c.session (c.heard + 1) (base_of c + c.answered + 1) c.queue

-- the numbers of every client fit: none passes 2^53 - 1
pub record InRange (base : Option ℕ) (made sent answered heard : ℕ) (queue : List Queued) : Type 0 where
  pub writes : made ≡ answered + count_writes queue
  pub gone_out : sent ≤ made
  pub numbers : unwrap_or base 0 + made ≤ greatest_number
  pub reach : heard + length queue ≤ greatest_number

-- no number is left for one more request, write, message
abbrev pub no_request : ClientState → Bool
no_request c = nat_le greatest_number c.requests

abbrev pub no_write : ClientState → Bool
no_write c = nat_le greatest_number (base_of c + c.made)

abbrev pub no_message : ClientState → Bool
no_message c = nat_le greatest_number (c.heard + length c.queue)

-- ---- paths that are listened to

-- the view of the path
abbrev pub view : Path → ClientState → Option (ℕ × Rows Scalar)
view p c = watched_at c.seen (watch_of p c.watches)

-- ---- transactions

-- the tries of a transaction before it is given up
abbrev pub most_tries : ℕ
most_tries = 25

-- ---- how much there is

-- at most how many messages the next call makes
abbrev pub most_sends : ClientState → ℕ
most_sends c = if is_online c.phase then max 1 (length c.queue) else (if is_opening c.phase then max 1 (length c.watches + length c.queue) else 1)

-- how many messages of the session wait for an answer, its Hello among them
abbrev pub unanswered : ClientState → ℕ
unanswered c = if is_online c.phase then length c.queue else (if is_opening c.phase then 1 else 0)
