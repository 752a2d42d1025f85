-- What the calls of a hub's core do to histories that stand.
use Rattle.std.specs.Prelude.{ℕ, zero, suc, List, [], ◌∷◌, Option}
use Rattle.std.proofs.Common.{inl, inr}
use Rattle.pres_ids.specs.declared.id.SessionId.{SessionId}
use Rattle.pres_ids.specs.declared.id.Why.{Why}
use Rattle.pres_wire.specs.declared.up.Up.TheVariants as up
use Rattle.pres_server.specs.declared.input.Input.{Input}
use Rattle.pres_server.specs.declared.input.Input.TheVariants as input
use Rattle.pres_server.specs.SumStates.{SumState}
use Rattle.pres_server.specs.Histories.{History}
use Rattle.pres_ring.specs.RingEnds.{OutboxState}
use Rattle.pres_ring.specs.Lines.{Lines}
use Rattle.pres_dispatch.specs.Dispatches.{Histories, histories_turned, histories_ended, histories_checkpointed}
use Rattle.pres_hub.specs.Cores.{CoreState, AreCoreHistories}
use Rattle.pres_faults.specs.declared.hub_fault.HubFault.{HubFault}
use Rattle.pres_hub.specs.CoreCalls.{IsCarriedOut, IsJoinAnswered, EndsMarked, AreMarkedEnded, EndsLate, AreLateEnded, IsEventRefused, IsTickDone, StopsAtMark, StopsAtLease, IsTickStopped}

-- the histories with the batch of the turn, and with the ends of slow sessions
abbrev pub histories_carried : {i : Input} {now : ℕ} {old new : Option SumState} {before after : Lines} → Histories → IsCarriedOut i now old new before after → Histories
histories_carried {i} {now} {old} {new} {before} {after} histories carried = histories_ended (histories_turned histories old i now) carried.ended

-- so with the batch of the Hello
abbrev pub histories_joined : {s : SessionId} {now : ℕ} {old new : Option SumState} {before after : Lines} {end : OutboxState} → Histories → IsJoinAnswered s now old new before after end → Histories
histories_joined {s} {now} {old} {new} {before} {after} {end} histories joined = histories_ended (histories_turned histories old (input.Up (up.Hello s)) now) joined.ended

-- the input is carried out, and histories that stood stand with what that makes
abbrev pub CarriesOn : {A : Type 0} → (A → Type 0) → (A → History → Type 0) → Input → ℕ → CoreState A → CoreState A → Type 0
CarriesOn works keeps i now old new =
    (histories : Histories) → AreCoreHistories works keeps histories old → (carried : IsCarriedOut i now old.run.server new.run.server old.lines new.lines) × AreCoreHistories works keeps (histories_carried histories carried) new

-- so it is with a session that is opened
abbrev pub JoinsOn : {A : Type 0} → (A → Type 0) → (A → History → Type 0) → SessionId → ℕ → OutboxState → CoreState A → CoreState A → Type 0
JoinsOn works keeps s now end old new =
    (histories : Histories) → AreCoreHistories works keeps histories old → (joined : IsJoinAnswered s now old.run.server new.run.server old.lines new.lines end) × AreCoreHistories works keeps (histories_joined histories joined) new

-- histories that stood still stand
abbrev pub StandsStill : {A : Type 0} → (A → Type 0) → (A → History → Type 0) → CoreState A → CoreState A → Type 0
StandsStill works keeps old new = (histories : Histories) → AreCoreHistories works keeps histories old → AreCoreHistories works keeps histories new

-- Where a checkpoint is made, what the keeper keeps begins at the server's sum, and the history since the start stays.
abbrev pub CheckpointsOn : {A : Type 0} → (A → Type 0) → (A → History → Type 0) → Option ℕ → CoreState A → CoreState A → Type 0
CheckpointsOn works keeps number old new =
    (histories : Histories) → AreCoreHistories works keeps histories old → AreCoreHistories works keeps (histories_checkpointed histories old.run.server number) new

-- ---- ends, one after the other

abbrev pub histories_marked : Histories → (now : ℕ) (es : List (SessionId × Why)) (old new : Option SumState) (before after : Lines) → EndsMarked now es old new before after → Histories
histories_marked histories now [] old new before after ends = histories
histories_marked histories now (e ∷ es) old new before after ends = histories_marked (histories_carried histories ends.3) now es ends.1 new ends.2 after ends.4

abbrev pub histories_late : Histories → (now n : ℕ) (old new : Option SumState) (before after : Lines) → EndsLate now n old new before after → Histories
histories_late histories now zero old new before after ends = histories
histories_late histories now (suc n) old new before after ends = histories_late (histories_carried histories ends.2) now n ends.0 new ends.1 after ends.3

-- the histories with the ends of marked sessions, and with those of leases
abbrev pub histories_ticked : {now : ℕ} {old new : Option SumState} {before after : Lines} → Histories → IsTickDone now old new before after → Histories
histories_ticked {now} {old} {new} {before} {after} histories done =
    histories_late (histories_marked histories now done.marked.0 old done.middle before done.lines done.marked.1) now done.late.0 done.middle new done.lines after done.late.1

-- the marked sessions are ended, and histories that stood stand with their ends
abbrev pub EndsMarkedOn : {A : Type 0} → (A → Type 0) → (A → History → Type 0) → ℕ → CoreState A → CoreState A → Type 0
EndsMarkedOn works keeps now old new =
    (histories : Histories) → AreCoreHistories works keeps histories old → (ended : AreMarkedEnded now old.run.server new.run.server old.lines new.lines)
    × AreCoreHistories works keeps (histories_marked histories now ended.0 old.run.server new.run.server old.lines new.lines ended.1) new

-- so it is with those whose leases ran out
abbrev pub EndsLateOn : {A : Type 0} → (A → Type 0) → (A → History → Type 0) → ℕ → CoreState A → CoreState A → Type 0
EndsLateOn works keeps now old new =
    (histories : Histories) → AreCoreHistories works keeps histories old → (ended : AreLateEnded now old.run.server new.run.server old.lines new.lines)
    × AreCoreHistories works keeps (histories_late histories now ended.0 old.run.server new.run.server old.lines new.lines ended.1) new

-- the tick is done, and histories that stood stand with the ends that it makes
abbrev pub TicksOn : {A : Type 0} → (A → Type 0) → (A → History → Type 0) → ℕ → CoreState A → CoreState A → Type 0
TicksOn works keeps now old new =
    (histories : Histories) → AreCoreHistories works keeps histories old → (done : IsTickDone now old.run.server new.run.server old.lines new.lines) × AreCoreHistories works keeps (histories_ticked histories done) new

-- ---- ends that stop

-- the histories with the ends before the session whose end is refused
abbrev pub histories_at_mark : {now : ℕ} {old new : Option SumState} {before after : Lines} {e : HubFault} → Histories → StopsAtMark now old new before after e → Histories
histories_at_mark {now} {old} {new} {before} {after} {e} histories stop = histories_marked histories now stop.ended.0 old stop.middle before after stop.ended.1

-- the histories with the ends of marked sessions, and with those of leases before the one whose end is refused
abbrev pub histories_at_lease : {now : ℕ} {old new : Option SumState} {before after : Lines} {e : HubFault} → Histories → StopsAtLease now old new before after e → Histories
histories_at_lease {now} {old} {new} {before} {after} {e} histories stop =
    histories_late (histories_marked histories now stop.ended.0 old stop.middle before stop.lines stop.ended.1) now stop.late.0 stop.middle stop.last stop.lines after stop.late.1

-- the histories with the ends before a tick stops
abbrev pub histories_stopped : {now : ℕ} {old new : Option SumState} {before after : Lines} {e : HubFault} → Histories → IsTickStopped now old new before after e → Histories
histories_stopped histories (inl stop) = histories_at_mark histories stop
histories_stopped histories (inr stop) = histories_at_lease histories stop

-- the end of a marked session is refused, and histories that stood stand with the ends before it
abbrev pub StopsAtMarkOn : {A : Type 0} → (A → Type 0) → (A → History → Type 0) → ℕ → CoreState A → CoreState A → HubFault → Type 0
StopsAtMarkOn works keeps now old new e =
    (histories : Histories) → AreCoreHistories works keeps histories old → (stop : StopsAtMark now old.run.server new.run.server old.lines new.lines e) × AreCoreHistories works keeps (histories_at_mark histories stop) new

-- so it is with the end of a lease
abbrev pub StopsLateOn : {A : Type 0} → (A → Type 0) → (A → History → Type 0) → ℕ → CoreState A → CoreState A → HubFault → Type 0
StopsLateOn works keeps now old new e =
    (histories : Histories) → AreCoreHistories works keeps histories old → (last : Option SumState) × (ended : AreLateEnded now old.run.server last old.lines new.lines)
    × IsEventRefused input.Tick now last new.run.server e × AreCoreHistories works keeps (histories_late histories now ended.0 old.run.server last old.lines new.lines ended.1) new

-- the tick stops, and histories that stood stand with the ends before it stops
abbrev pub TickStopsOn : {A : Type 0} → (A → Type 0) → (A → History → Type 0) → ℕ → CoreState A → CoreState A → HubFault → Type 0
TickStopsOn works keeps now old new e =
    (histories : Histories) → AreCoreHistories works keeps histories old → (stop : IsTickStopped now old.run.server new.run.server old.lines new.lines e) × AreCoreHistories works keeps (histories_stopped histories stop) new
