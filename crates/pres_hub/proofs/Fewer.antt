-- How many entries a server can still take, which events that make any lessen.
use Rattle.std.proofs.Common.{refl, sym, ap, subst, ◌≡◌, ◌≤◌, ◌<◌, ◌+◌, ◌-◌, ◌^◌, ℕ, List, [], length, true, Option, Some, None, arith}
use Rattle.std.proofs.Math.Numerals.{lt_of_le_of_ne}
use Rattle.pres_ids.specs.declared.id.SessionId.{SessionId}
use Rattle.pres_ids.specs.declared.id.Why.{Why}
use Rattle.pres_ids.specs.declared.id.Why.TheVariants as why
use Rattle.pres_wire.specs.declared.down.Down.{Down}
use Rattle.pres_log.specs.declared.entry.Entry.{Entry}
use Rattle.pres_server.specs.declared.input.Input.{Input}
use Rattle.pres_server.specs.declared.input.Input.TheVariants as input
use Rattle.pres_server.specs.Turns.{Decision, refused, quiet, makes}
use Rattle.pres_server.specs.Sums.{nothing, is_open_in}
use Rattle.pres_server.specs.SumStates.{SumState}
use Rattle.pres_server.specs.SumTurns.{turn_by, moment_by, after_commit}
use Rattle.pres_server.specs.Histories.{IsSum, begun_at}
use Rattle.pres_ring.specs.Laws.{IsEnding}
use Rattle.pres_ring.proofs.TurnsBy.{lost_ends, slow_ends}
use Rattle.pres_keeper.specs.Engines.{Runs}
use Rattle.pres_keeper.specs.EngineTurns.{IsDone, IsTurnDone}
use Rattle.pres_ring.specs.Lines.{Lines}
use Rattle.pres_dispatch.specs.Dispatches.{AreEnded}
use Rattle.pres_dispatch.proofs.Behind.{number_after}
use Rattle.pres_dispatch.proofs.Ended.{slow_keeps}
use Rattle.pres_hub.specs.Cores.{end_by}
use Rattle.pres_hub.specs.CoreCalls.{IsCarriedOut}

-- what didn't fall and isn't the same has risen
pub rose : (a b : ℕ) → a ≤ b → (b ≡ a → ⊥) → a < b
rose a b h other = lt_of_le_of_ne h (λ e. other (sym e))

-- none of a server that is down
abbrev pub left_of : Option SumState → ℕ
left_of None = 0
left_of (Some s) = 2 ^ 52 - s.sum.number

-- there is room for one more
pub has_room : (s : SumState) → IsSum s.sum → s.sum.number < 2 ^ 52
has_room s summed = let room = summed.room in omega (arith, room)

-- entries stay
pub turned_rises : (n : ℕ) (s : SumState) (i : Input) (now : ℕ) (new : Option SumState) (outs : List Down) → IsTurnDone (Some s) i now new outs → n ≤ s.sum.number → Runs (λ x. n ≤ x.sum.number) new
turned_rises n s i now new outs turned h = by (turn_by s i now) turned where
  by : (d : Decision) → IsDone d s (moment_by s.sum now) i new outs → Runs (λ x. n ≤ x.sum.number) new
  by (refused f) done = absurd done
  by quiet done = subst (Runs (λ x. n ≤ x.sum.number)) (sym done.0) h
  by (makes es) done =
      let more : (after_commit s (moment_by s.sum now) es).sum.number ≡ s.sum.number + length es = number_after es s.sum in
      subst (Runs (λ x. n ≤ x.sum.number)) (sym done.0) (omega (arith, more, h))

pub ended_rises : (n now : ℕ) (old new : Option SumState) (before after : Lines) → AreEnded now old new before after → Runs (λ x. n ≤ x.sum.number) old → Runs (λ x. n ≤ x.sum.number) new
ended_rises n now old new before after ended h =
    slow_keeps (λ history x. n ≤ x.sum.number) now (λ history x s server outs opened turned k. turned_rises n x (input.Slow s) now server outs turned k)
    (begun_at nothing) old new before after ended h

-- fewer are left
fewer : (n : ℕ) (s : SumState) (new : Option SumState) → IsSum s.sum → s.sum.number < n → Runs (λ x. n ≤ x.sum.number) new → left_of new < left_of (Some s)
fewer n s None summed less h = let room = has_room s summed in omega (arith, room)
fewer n s (Some t) summed less h = let room = has_room s summed in omega (arith, room, less, h)

-- an event after which the number is greater
pub late_fewer : (i : Input) (now before after : ℕ) (old new : Option SumState) (lines behind : Lines) → IsCarriedOut i now old new lines behind → Runs (λ s. IsSum s.sum) old
    → Runs (λ s. before ≡ s.sum.number) old → Runs (λ s. after ≡ s.sum.number) new → before < after → left_of new < left_of old
late_fewer i now before after None new lines behind carried summed b a less = absurd carried.answered.1
late_fewer i now before after (Some s) None lines behind carried summed b a less = let room = has_room s summed in omega (arith, room)
late_fewer i now before after (Some s) (Some t) lines behind carried summed b a less = fewer after s (Some t) summed (omega (arith, b, less)) (omega (arith, a))

ending : (w : Why) (s : SumState) (t : SessionId) (now : ℕ) → is_open_in t s.sum ≡ true → (e : Entry) × IsEnding t e (turn_by s (end_by w t) now)
ending why.Bye s t now is = (_, lost_ends s t now is)
ending why.Lost s t now is = (_, lost_ends s t now is)
ending why.Lease s t now is = (_, lost_ends s t now is)
ending why.Superseded s t now is = (_, lost_ends s t now is)
ending why.Slow s t now is = (_, slow_ends s t now is)
ending why.Restart s t now is = (_, lost_ends s t now is)

-- the end of an open session
pub marked_fewer : (w : Why) (t : SessionId) (now : ℕ) (old new : Option SumState) (lines behind : Lines) → IsCarriedOut (end_by w t) now old new lines behind → Runs (λ s. IsSum s.sum) old
    → Runs (λ s. is_open_in t s.sum ≡ true) old → left_of new < left_of old
marked_fewer w t now None new lines behind carried summed is = absurd carried.answered.1
marked_fewer w t now (Some s) new lines behind carried summed is = by (turn_by s (end_by w t) now) refl carried.answered.1 where
  end : (e : Entry) × IsEnding t e (turn_by s (end_by w t) now)
  end = ending w s t now is

  by : (d : Decision) → turn_by s (end_by w t) now ≡ d → IsDone d s (moment_by s.sum now) (end_by w t) carried.middle carried.answered.0 → left_of new < left_of (Some s)
  by (refused f) k done = absurd done
  by quiet k done = absurd (end.1.not_quiet k)
  by (makes es) k done =
      let one = ap length (end.1.alone es k) in
      let more : (after_commit s (moment_by s.sum now) es).sum.number ≡ s.sum.number + length es = number_after es s.sum in
      let middle : Runs (λ x. s.sum.number + 1 ≤ x.sum.number) carried.middle = subst (Runs (λ x. s.sum.number + 1 ≤ x.sum.number)) (sym done.0) (omega (arith, one, more)) in
      fewer (s.sum.number + 1) s new summed (omega (arith)) (ended_rises (s.sum.number + 1) now carried.middle new carried.lines behind carried.ended middle)
