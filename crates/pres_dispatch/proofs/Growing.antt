-- Turns and ends add batches, the same to each history.
use Rattle.std.proofs.Common.{refl, sym, ◌∙◌, ap, ◌≡◌, ℕ, List, [], ◌∷◌, ◌++◌, append-nil, append_assoc, Option, Some, None, ◌⊎◌, inl, inr, Ok, Err}
use Rattle.pres_ids.specs.declared.id.SessionId.{SessionId}
use Rattle.pres_log.specs.Logs.{Log}
use Rattle.pres_server.specs.declared.input.Input.{Input}
use Rattle.pres_server.specs.declared.input.Input.TheVariants as input
use Rattle.pres_server.specs.Turns.{Decision, refused, quiet, makes}
use Rattle.pres_server.specs.Sums.{Sum, is_open_in}
use Rattle.pres_server.specs.SumStates.{SumState}
use Rattle.pres_server.specs.SumTurns.{turn_by, moment_by, batch_by}
use Rattle.pres_server.specs.Histories.{History, with_batches}
use Rattle.pres_ring.specs.HistoryTranscripts.{IsClosed}
use Rattle.pres_ring.specs.Lines.{Lines}
use Rattle.pres_faults.specs.declared.engine_fault.EngineFault.{EngineFault}
use Rattle.pres_faults.specs.declared.engine_fault.EngineFault.TheVariants as fault
use Rattle.pres_keeper.specs.EngineTurns.{history_made, history_turned, history_left}
use Rattle.pres_keeper.specs.EngineGroups.{TurnPart, alone, unkept, gone}
use Rattle.pres_dispatch.specs.Dispatches.{Histories, both, both_with, EndsSlow, AreEnded, history_if, history_slow, history_ended}
use Rattle.pres_dispatch.specs.Groups.{IsPartPut, ArePartsPut, history_part, history_parts}

-- the change adds these batches to each history
abbrev pub Adds : (History → History) → Type 0
Adds change = (more : Log) × ((history : History) → change history ≡ with_batches history more)

-- so it does to both
pub both_added : (change : History → History) (histories : Histories) (adds : Adds change) → both change histories ≡ both_with histories adds.0
both_added change histories adds = λ i. record { kept = adds.1 histories.kept i; since_start = adds.1 histories.since_start i }

-- the base stays
pub closed_added : (change : History → History) → Adds change → (history : History) → IsClosed history → IsClosed (change history)
closed_added change adds history closed t = ap (λ (h : History). is_open_in t h.base) (adds.1 history) ∙ closed t

more_none : (history : History) → history ≡ with_batches history []
more_none history = λ i. record { base = history.base; log = sym (append-nil history.log) i }

more_twice : (history : History) (first second : Log) → with_batches (with_batches history first) second ≡ with_batches history (first ++ second)
more_twice history first second = λ i. record { base = history.base; log = append_assoc history.log first second i }

pub adds_none : Adds (λ history. history)
adds_none = ([], more_none)

pub adds_twice : (first second : History → History) → Adds first → Adds second → Adds (λ history. second (first history))
adds_twice first second a b = (a.0 ++ b.0, λ history. ap second (a.1 history) ∙ b.1 (with_batches history a.0) ∙ more_twice history a.0 b.0)

-- ---- a turn

made_adds : (sum : Sum) (moment : ℕ) (d : Decision) → Adds (λ history. history_made history sum moment d)
made_adds sum moment (refused f) = adds_none
made_adds sum moment quiet = adds_none
made_adds sum moment (makes es) = (batch_by sum moment es ∷ [], λ history. refl)

pub turned_adds : (old : Option SumState) (i : Input) (now : ℕ) → Adds (λ history. history_turned history old i now)
turned_adds None i now = adds_none
turned_adds (Some s) i now = made_adds s.sum (moment_by s.sum now) (turn_by s i now)

pub left_adds : (old : Option SumState) (i : Input) (now : ℕ) (f : EngineFault) → Adds (λ history. history_left history old i now f)
left_adds old i now (fault.Refused f) = adds_none
left_adds old i now fault.Memory = adds_none
left_adds old i now (fault.Keeper f) = adds_none
left_adds old i now fault.Down = turned_adds old i now

-- ---- the ends of slow sessions

if_adds : {A B : Type 0} (u : A ⊎ B) (change : History → History) → Adds change → Adds (λ history. history_if u (change history) history)
if_adds (inl answered) change adds = adds
if_adds (inr unanswered) change adds = adds_none

slow_adds : (now : ℕ) (ss : List SessionId) (old new : Option SumState) (before after : Lines) (ends : EndsSlow now ss old new before after) → Adds (λ history. history_slow history now ss old new before after ends)
slow_adds now [] old new before after ends = adds_none
slow_adds now (s ∷ ss) old new before after ends =
    adds_twice (λ history. history_if ends.2.ended (history_turned history old (input.Slow s) now) history) (λ history. history_slow history now ss ends.0 new ends.1 after ends.3)
    (if_adds ends.2.ended (λ history. history_turned history old (input.Slow s) now) (turned_adds old (input.Slow s) now)) (slow_adds now ss ends.0 new ends.1 after ends.3)

pub ended_adds : (now : ℕ) (old new : Option SumState) (before after : Lines) (ended : AreEnded now old new before after) → Adds (λ history. history_ended history ended)
ended_adds now old new before after ended = slow_adds now ended.sessions old new before after ended.ends

-- ---- several turns

pub part_adds : (p : TurnPart) (now : ℕ) (a b : Option SumState) (before after : Lines) (put : IsPartPut p now a b before after) → Adds (λ history. history_part history p now a b before after put)
part_adds (alone i (Ok outs)) now a b before after put = turned_adds a i now
part_adds (alone i (Err f)) now a b before after put = left_adds a i now f
part_adds (unkept inputs f) now a b before after put = adds_none
part_adds (gone inputs) now a b before after put = (put.0, λ history. refl)

pub parts_adds : (ps : List TurnPart) (now : ℕ) (a b : Option SumState) (before after : Lines) (put : ArePartsPut ps now a b before after) → Adds (λ history. history_parts history ps now a b before after put)
parts_adds [] now a b before after put = adds_none
parts_adds (p ∷ ps) now a b before after put =
    adds_twice (λ history. history_part history p now a put.0 before put.1 put.2) (λ history. history_parts history ps now put.0 b put.1 after put.3)
    (part_adds p now a put.0 before put.1 put.2) (parts_adds ps now put.0 b put.1 after put.3)
