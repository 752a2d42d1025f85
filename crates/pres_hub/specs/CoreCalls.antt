-- What the calls of a hub's core do.
use Rattle.std.specs.Prelude.{◌≡◌, ◌≢◌, ◌⊎◌, ◌+◌, ◌<◌, ◌≤◌, ℕ, zero, suc, Bool, true, false, List, [], ◌∷◌, Option, Some, None, is_some, IfSome, IsSomeAnd}
use Rattle.pres_ids.specs.Ids.{same_session}
use Rattle.pres_wire.specs.declared.up.Up.{Up}
use Rattle.pres_wire.specs.Messages.{session_in}
use Rattle.pres_log.specs.declared.fault.Fault.{Fault}
use Rattle.pres_log.specs.declared.fault.Fault.TheVariants as fault
use Rattle.pres_server.specs.declared.input.Input.{Input}
use Rattle.pres_server.specs.declared.input.Input.TheVariants as input
use Rattle.pres_server.specs.Turns.{Decision, quiet, makes}
use Rattle.pres_server.specs.Sums.{accepted_in}
use Rattle.pres_server.specs.SumStates.{SumState}
use Rattle.pres_server.specs.SumTurns.{turn_by}
use Rattle.pres_ring.specs.AcceptedMessages.{is_hello}
use Rattle.pres_ring.specs.Lines.{Lines, line_at, IsFirstMarked}
use Rattle.pres_keeper.specs.Keepers.{IsOfStore}
use Rattle.pres_keeper.specs.Engines.{Runs}
use Rattle.pres_keeper.specs.EngineTurns.{IsTurnRefused}
use Rattle.pres_faults.specs.declared.engine_fault.EngineFault.TheVariants as refusal
use Rattle.pres_accounting.specs.declared.tally.Counts.{Counts}
use Rattle.pres_dispatch.specs.Dispatches.{IsAnswered, IsJoined, IsNotJoined, AreEnded}
use Rattle.pres_ids.specs.declared.id.SessionId.{SessionId}
use Rattle.pres_ids.specs.declared.id.Why.{Why}
use Rattle.pres_hub.specs.Cores.{end_by}
use Rattle.pres_ring.specs.RingEnds.{OutboxState}
use Rattle.pres_accounting.specs.Seats.{SeatState}
use Rattle.pres_faults.specs.declared.hub_fault.HubFault.{HubFault}
use Rattle.pres_faults.specs.declared.hub_fault.HubFault.TheVariants as why

-- the input's turn is done and answered on the lines, and then each session whose line is slow is ended
pub record IsCarriedOut (input : Input) (now : ℕ) (old new : Option SumState) (before after : Lines) : Type 0 where
  pub middle : Option SumState
  pub lines : Lines
  pub answered : IsAnswered old input now middle before lines
  pub ended : AreEnded now middle new lines after

-- the session is opened and answered on the lines, and then each session whose line is slow is ended
pub record IsJoinAnswered (s : SessionId) (now : ℕ) (old new : Option SumState) (before after : Lines) (end : OutboxState) : Type 0 where
  pub middle : Option SumState
  pub lines : Lines
  pub joined : IsJoined s now old middle before lines end
  pub ended : AreEnded now middle new lines after

-- how many messages the turn of this one accepts
abbrev pub accepted_by : Decision → ℕ
accepted_by (makes es) = 1
accepted_by _ = 0

abbrev pub accepted_of : Option SumState → Up → ℕ → ℕ
accepted_of None m now = 0
accepted_of (Some s) m now = accepted_by (turn_by s (input.Up m) now)

-- the message's session has had as many messages as the seat, where it is open
abbrev pub HasSameCount : Up → ℕ → Option SumState → Type 0
HasSameCount m q server = Runs (λ s. IfSome (accepted_in (session_in m) s.sum) (λ count. count ≡ q)) server

-- the message is the seat's own: it is no Hello, and names the seat's session
abbrev pub IsOwnMessage : SeatState → Up → Type 0
IsOwnMessage seat m = (is_hello m ≡ false) × (same_session (session_in m) seat.session ≡ true)

-- A running server takes a seat's message: it is the seat's own, its session has had as many messages as the seat, and
-- the server has every number that was sent to the seat.
pub record IsTaken (seat : SeatState) (m : Up) (server : Option SumState) (number : ℕ) : Type 0 where
  pub runs : is_some server ≡ true
  pub own : IsOwnMessage seat m
  pub fresh : seat.seen ≤ number
  pub abreast : HasSameCount m seat.q server

-- The message's turn is done and answered on the lines, and then each session whose line is slow is ended. Where the
-- server accepted the message, the seat and the counts have one more, and the seat notes the number.
pub record IsSayAnswered (m : Up) (now : ℕ) (old new : Option SumState) (before after : Lines) (earlier number : ℕ) (seat seat_after : SeatState) (counts counts_after : Counts) : Type 0 where
  pub taken : IsTaken seat m old earlier
  pub carried : IsCarriedOut (input.Up m) now old new before after
  pub seat_is : seat_after ≡ record { session = seat.session; q = seat.q + accepted_of old m now; seen = number; made = seat.made + accepted_of old m now }
  pub counts_are : counts_after ≡ record counts { accepted = counts.accepted + accepted_of old m now }

-- an event isn't done, as its turn isn't
abbrev pub IsEventRefused : Input → ℕ → Option SumState → Option SumState → HubFault → Type 0
IsEventRefused i now old new why.Memory = IsTurnRefused old i now new refusal.Memory
IsEventRefused i now old new (why.Refused f) = IsTurnRefused old i now new (refusal.Refused f)
IsEventRefused i now old new (why.Keeper f) = IsTurnRefused old i now new (refusal.Keeper f)
IsEventRefused i now old new why.Down = IsTurnRefused old i now new refusal.Down
IsEventRefused i now old new e = ⊥

-- the refusal of a message that names another session, a Hello before all
abbrev pub IsForeign : Bool → Bool → Fault → Type 0
IsForeign true same f = f ≡ fault.Bad
IsForeign false same f = (f ≡ fault.Session) × (same ≡ false)

-- Why the server doesn't take a seat's message, in this order: the server is down; the message isn't the seat's own;
-- the server has fewer entries than were sent to the seat; its session has had another number of messages than the
-- seat.
abbrev pub IsHeldBack : SeatState → Up → Option SumState → ℕ → HubFault → Type 0
IsHeldBack seat m None number e = e ≡ why.Down
IsHeldBack seat m (Some s) number (why.Refused f) = IsForeign (is_hello m) (same_session (session_in m) seat.session) f
IsHeldBack seat m (Some s) number (why.Behind have seen) = IsOwnMessage seat m × (have ≡ number) × (seen ≡ seat.seen) × (number < seat.seen)
IsHeldBack seat m (Some s) number (why.Apart q) =
    IsOwnMessage seat m × (seat.seen ≤ number) × (q ≡ seat.q + 1) × IsSomeAnd (accepted_in (session_in m) s.sum) (λ count. count ≢ seat.q)
IsHeldBack seat m (Some s) number e = ⊥

-- the end of a session isn't done: memory is refused with the server as it was, or its turn isn't done
abbrev pub IsEndRefused : Input → ℕ → Option SumState → Option SumState → HubFault → Type 0
IsEndRefused i now old new why.Memory = new ≡ old
IsEndRefused i now old new (why.Refused f) = IsEventRefused i now old new (why.Refused f)
IsEndRefused i now old new (why.Keeper f) = IsEventRefused i now old new (why.Keeper f)
IsEndRefused i now old new why.Down = IsEventRefused i now old new why.Down
IsEndRefused i now old new e = ⊥

-- a seat's message is kept back, with the server as it was, or else is taken to the server, and its turn isn't done
abbrev pub IsSayRefused : SeatState → Up → ℕ → ℕ → Option SumState → Option SumState → HubFault → Type 0
IsSayRefused seat m number now old new e = (IsHeldBack seat m old number e × (new ≡ old)) ⊎ (IsTaken seat m old number × IsEventRefused (input.Up m) now old new e)

-- a session isn't opened, as its Hello's turn isn't done
abbrev pub IsJoinRefused : SessionId → ℕ → Option SumState → Option SumState → HubFault → Type 0
IsJoinRefused s now old new why.Memory = IsNotJoined s now old new refusal.Memory
IsJoinRefused s now old new (why.Refused f) = IsNotJoined s now old new (refusal.Refused f)
IsJoinRefused s now old new (why.Keeper f) = IsNotJoined s now old new (refusal.Keeper f)
IsJoinRefused s now old new why.Down = IsNotJoined s now old new refusal.Down
IsJoinRefused s now old new e = ⊥

-- ---- ends

-- the session's end was refused, and it is still to end
abbrev pub IsMarked : SessionId → Lines → Type 0
IsMarked s lines = IsSomeAnd (line_at s lines) (λ l. is_some l.mark ≡ true)

-- no session's end is still to be done
abbrev pub NoneMarked : Lines → Type 0
NoneMarked lines = (s : SessionId) → IfSome (line_at s lines) (λ l. l.mark ≡ None)

-- these sessions, each the first that is marked, are ended for the reason of their marks, one after the other
abbrev pub EndsMarked : ℕ → List (SessionId × Why) → Option SumState → Option SumState → Lines → Lines → Type 0
EndsMarked now [] old new before after = (new ≡ old) × (after ≡ before)
EndsMarked now (e ∷ es) old new before after =
    IsFirstMarked e before
    × (middle : Option SumState) × (lines : Lines) × IsCarriedOut (end_by e.1 e.0) now old middle before lines × EndsMarked now es middle new lines after

-- this many times the first lease that ran out is ended, or nothing is done where there is none
abbrev pub EndsLate : ℕ → ℕ → Option SumState → Option SumState → Lines → Lines → Type 0
EndsLate now zero old new before after = (new ≡ old) × (after ≡ before)
EndsLate now (suc n) old new before after =
    (middle : Option SumState) × (lines : Lines) × IsCarriedOut input.Tick now old middle before lines × EndsLate now n middle new lines after

abbrev pub AreMarkedEnded : ℕ → Option SumState → Option SumState → Lines → Lines → Type 0
AreMarkedEnded now old new before after = (es : List (SessionId × Why)) × EndsMarked now es old new before after

abbrev pub AreLateEnded : ℕ → Option SumState → Option SumState → Lines → Lines → Type 0
AreLateEnded now old new before after = (n : ℕ) × EndsLate now n old new before after

-- sessions that are marked are ended until none is, then those whose leases ran out, until none is left
pub record IsTickDone (now : ℕ) (old new : Option SumState) (before after : Lines) : Type 0 where
  pub middle : Option SumState
  pub lines : Lines
  pub marked : AreMarkedEnded now old middle before lines
  pub none_marked : NoneMarked lines
  pub late : AreLateEnded now middle new lines after
  pub none_late : Runs (λ s. turn_by s input.Tick now ≡ quiet) new

-- a tick stops at a session whose end is refused: it stays the first that is marked, and the ends before it stand
pub record StopsAtMark (now : ℕ) (old new : Option SumState) (before after : Lines) (e : HubFault) : Type 0 where
  pub middle : Option SumState
  pub ended : AreMarkedEnded now old middle before after
  pub next : SessionId × Why
  pub first : IsFirstMarked next after
  pub refused : IsEndRefused (end_by next.1 next.0) now middle new e

-- it stops at a lease whose end is refused: each session that was marked is ended, and the ends of leases before it stand
pub record StopsAtLease (now : ℕ) (old new : Option SumState) (before after : Lines) (e : HubFault) : Type 0 where
  pub middle : Option SumState
  pub lines : Lines
  pub ended : AreMarkedEnded now old middle before lines
  pub none_marked : NoneMarked lines
  pub last : Option SumState
  pub late : AreLateEnded now middle last lines after
  pub refused : IsEventRefused input.Tick now last new e

-- a tick stops at an end that is refused
abbrev pub IsTickStopped : ℕ → Option SumState → Option SumState → Lines → Lines → HubFault → Type 0
IsTickStopped now old new before after e = StopsAtMark now old new before after e ⊎ StopsAtLease now old new before after e

-- ---- a checkpoint

-- it isn't made: memory or the database refuses, or there is no server
abbrev pub IsCheckpointRefused : Option SumState → HubFault → Type 0
IsCheckpointRefused None e = e ≡ why.Down
IsCheckpointRefused (Some s) (why.Keeper f) = IsOfStore f
IsCheckpointRefused (Some s) e = ⊥

-- what a checkpoint may be refused for
abbrev pub IsCheckpointFault : HubFault → Type 0
IsCheckpointFault (why.Keeper f) = IsOfStore f
IsCheckpointFault why.Down = Unit {0}
IsCheckpointFault e = ⊥
