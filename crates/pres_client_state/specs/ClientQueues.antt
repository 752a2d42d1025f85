-- What waits for an answer and what waits to be handed out, with the room that is left for more.
use Rattle.std.specs.Prelude.{◌≤◌, ◌+◌, ℕ, List}
use Rattle.pres_ids.specs.Numbers.{greatest_number}
use Rattle.pres_wire.specs.declared.up.Up.{Up}
use Rattle.pres_client_state.specs.declared.queued.Queued.{Queued}
use Rattle.pres_client_state.specs.declared.notice.Notice.{Notice}

pub record QueuesState : Type 0 where
  pub queue : List Queued
  pub sends : List Up
  pub notices : List Notice
  -- how many more go in without memory
  pub queue_room : ℕ
  pub sends_room : ℕ
  pub notices_room : ℕ

-- this many more go in without allocating
pub record HasRoom (m : QueuesState) (queued sent noted : ℕ) : Type 0 where
  pub queue : queued ≤ m.queue_room
  pub sends : sent ≤ m.sends_room
  pub notices : noted ≤ m.notices_room

-- this many numbers fit, from the first one on
abbrev pub MayNumber : ℕ → ℕ → Type 0
MayNumber first count = (1 ≤ first) × (first + count ≤ greatest_number + 1)
