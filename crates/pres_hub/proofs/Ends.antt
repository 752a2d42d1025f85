-- Ends of marked sessions and of leases, one after the other, and that none is left.
use Rattle.std.proofs.Common.{refl, sym, ◌∙◌, ap, subst, ◌≡◌, ◌≤◌, ℕ, suc, true, false, List, [], ◌∷◌, ◌++◌, Option, Some, None, is_some, IfSome, ◌⊎◌, inl, inr, arith}
use Rattle.pres_ids.specs.declared.id.SessionId.{SessionId}
use Rattle.pres_ids.specs.declared.id.Why.{Why}
use Rattle.pres_wire.specs.declared.down.Down.{Down}
use Rattle.pres_server.specs.declared.input.Input.{Input}
use Rattle.pres_server.specs.declared.input.Input.TheVariants as input
use Rattle.pres_server.specs.Turns.{Decision, refused, quiet, makes}
use Rattle.pres_server.specs.Sums.{nothing, is_open_in}
use Rattle.pres_server.specs.SumStates.{SumState}
use Rattle.pres_server.specs.SumTurns.{turn_by, moment_by, batch_by, after_commit}
use Rattle.pres_server.specs.Histories.{IsSum, History, begun_at}
use Rattle.pres_server.proofs.KeptSums.{sum_holds}
use Rattle.pres_keeper.specs.Engines.{Runs}
use Rattle.pres_faults.specs.declared.engine_fault.EngineFault.{EngineFault}
use Rattle.pres_faults.specs.declared.engine_fault.EngineFault.TheVariants as refusal
use Rattle.pres_keeper.specs.EngineTurns.{IsDone, IsTurnDone, IsTurnRefused}
use Rattle.pres_ring.proofs.TurnsBy.{slow_ends}
use Rattle.pres_ring.specs.Lines.{Lines, line_at, IsFirstMarked}
use Rattle.pres_dispatch.specs.Dispatches.{DispatcherState, Histories, CarriesTranscript, StandsBehind, SomeStands, IsNotAnswered, AreEnded}
use Rattle.pres_dispatch.proofs.Behind.{runs_map, follows_by}
use Rattle.pres_dispatch.proofs.Ended.{slow_keeps}
use Rattle.pres_hub.specs.Cores.{end_by}
use Rattle.pres_faults.specs.declared.hub_fault.HubFault.{HubFault}
use Rattle.pres_faults.specs.declared.hub_fault.HubFault.TheVariants as fault
use Rattle.pres_hub.specs.CoreCalls.{IsCarriedOut, AreMarkedEnded, AreLateEnded, IsEventRefused, IsEndRefused, StopsAtMark}
use Rattle.pres_hub.proofs.SayAnswered.{grown}
use Rattle.pres_hub.proofs.Fewer.{ended_rises}

-- one more at the front
pub marked_more : (now : ℕ) (e : SessionId × Why) (old middle after : Option SumState) (before lines behind : Lines) → IsFirstMarked e before → IsCarriedOut (end_by e.1 e.0) now old middle before lines
    → AreMarkedEnded now middle after lines behind → AreMarkedEnded now old after before behind
marked_more now e old middle after before lines behind first carried h = (e ∷ h.0, (first, middle, lines, carried, h.1))

pub late_more : (now : ℕ) (old middle after : Option SumState) (before lines behind : Lines) → IsCarriedOut input.Tick now old middle before lines → AreLateEnded now middle after lines behind → AreLateEnded now old after before behind
late_more now old middle after before lines behind carried h = (suc h.0, (middle, lines, carried, h.1))

-- ---- an end that is refused

-- memory is refused for the id of the first session that is marked
pub stops_uncopied : (found : Option (SessionId × Why)) (now : ℕ) (old middle : Option SumState) (before after : Lines) → is_some found ≡ true → IfSome found (λ e. IsFirstMarked e after) → AreMarkedEnded now old middle before after
    → StopsAtMark now old middle before after fault.Memory
stops_uncopied None now old middle before after is first ended = absurd (cc is)
stops_uncopied (Some e) now old middle before after is first ended = record { middle = middle; ended = ended; next = e; first = first; refused = refl }

pub refused_end : (i : Input) (now : ℕ) (old new : Option SumState) (e : HubFault) → IsEventRefused i now old new e → IsEndRefused i now old new e
refused_end i now old new fault.Memory h = h.0
refused_end i now old new (fault.Refused f) h = h
refused_end i now old new (fault.Keeper f) h = h
refused_end i now old new fault.Down h = h
refused_end i now old new (fault.Behind have seen) h = absurd h
refused_end i now old new (fault.Apart q) h = absurd h

-- where a turn isn't done the server stays, or goes down
pub turn_left : (i : Input) (now : ℕ) (old new : Option SumState) (e : EngineFault) → IsTurnRefused old i now new e → (new ≡ old) ⊎ (new ≡ None)
turn_left i now old new refusal.Memory h = inl h.0
turn_left i now old new (refusal.Refused f) h = inl h.0
turn_left i now old new (refusal.Keeper f) h = inl h.0
turn_left i now old new refusal.Down h = inr h.0

pub unanswered_left : (i : Input) (now : ℕ) (old new : Option SumState) (e : EngineFault) → IsNotAnswered old i now new e → (new ≡ old) ⊎ (new ≡ None)
unanswered_left i now old new refusal.Memory h = inl h
unanswered_left i now old new (refusal.Refused f) h = inl h.0
unanswered_left i now old new (refusal.Keeper f) h = inl h.0
unanswered_left i now old new refusal.Down h = inr h.0

pub event_left : (i : Input) (now : ℕ) (old new : Option SumState) (e : HubFault) → IsEventRefused i now old new e → (new ≡ old) ⊎ (new ≡ None)
event_left i now old new fault.Memory h = inl h.0
event_left i now old new (fault.Refused f) h = inl h.0
event_left i now old new (fault.Keeper f) h = inl h.0
event_left i now old new fault.Down h = inr h.0
event_left i now old new (fault.Behind have seen) h = absurd h
event_left i now old new (fault.Apart q) h = absurd h

-- a session without a line is closed
pub closed_there : {A : Type 0} (works : A → Type 0) (keeps : A → History → Type 0) (held : DispatcherState A) → SomeStands works keeps held → (s : SessionId) → line_at s held.lines ≡ None → Runs (λ t. is_open_in s t.sum ≡ false) held.run.server
closed_there works keeps held stands s none =
    runs_map (λ t. (h : Histories) × StandsBehind works keeps held t h) (λ t. is_open_in s t.sum ≡ false) (λ t b. subst (CarriesTranscript b.0.since_start t.sum s) none (b.1.told s)) held.run.server stands

-- ---- that none is left

-- it is a server's sum, and has more entries or is s
abbrev pub GrownFrom : ℕ → SumState → SumState → Type 0
GrownFrom n s x = IsSum x.sum × (n ≤ x.sum.number) × (n ≡ x.sum.number → x ≡ s)

-- the end of an open session makes entries
slow_grows : (n : ℕ) (s : SumState) (now : ℕ) (x : SumState) (t : SessionId) (new : Option SumState) (outs : List Down) → is_open_in t x.sum ≡ true → IsTurnDone (Some x) (input.Slow t) now new outs → GrownFrom n s x → Runs (GrownFrom n s) new
slow_grows n s now x t new outs opened turned h = by (turn_by x (input.Slow t) now) refl turned where
  by : (d : Decision) → turn_by x (input.Slow t) now ≡ d → IsDone d x (moment_by x.sum now) (input.Slow t) new outs → Runs (GrownFrom n s) new
  by (refused f) k done = absurd done
  by quiet k done = absurd ((slow_ends x t now opened).not_quiet k)
  by (makes es) k done =
      let state = after_commit x (moment_by x.sum now) es in
      let follows = follows_by x h.0 (input.Slow t) now es k in
      let summed : IsSum state.sum = sum_holds x.sum (batch_by x.sum (moment_by x.sum now) es) h.0 follows in
      let more = grown x (moment_by x.sum now) es follows in
      let low = h.1 in
      subst (Runs (GrownFrom n s)) (sym done.0) (summed, omega (arith, more, low), λ same. absurd (omega (arith, more, low, same)))

-- where the number stays, no session was ended as slow
none_slow : (now n : ℕ) (s : SumState) (new : Option SumState) (before after : Lines) → AreEnded now (Some s) new before after → IsSum s.sum → n ≤ s.sum.number → Runs (λ x. n ≡ x.sum.number) new → Runs (λ x. x ≡ s) new
none_slow now n s new before after ended summed low is =
    by new (slow_keeps (λ history x. GrownFrom n s x) now (λ history. slow_grows n s now) (begun_at nothing) (Some s) new before after ended (summed, low, λ same. refl)) is where
      by : (o : Option SumState) → Runs (GrownFrom n s) o → Runs (λ x. n ≡ x.sum.number) o → Runs (λ x. x ≡ s) o
      by None h k = tt
      by (Some x) h k = h.2 k

-- where the number stays, no lease ran out
pub none_late : (now before after : ℕ) (old new : Option SumState) (lines behind : Lines) → IsCarriedOut input.Tick now old new lines behind → Runs (λ s. IsSum s.sum) old
    → Runs (λ s. before ≡ s.sum.number) old → Runs (λ s. after ≡ s.sum.number) new → after ≡ before → Runs (λ s. turn_by s input.Tick now ≡ quiet) new
none_late now before after None new lines behind carried summed b a same = absurd carried.answered.1
none_late now before after (Some s) None lines behind carried summed b a same = tt
none_late now before after (Some s) (Some x) lines behind carried summed b a same = by (turn_by s input.Tick now) refl carried.answered.1 where
  by : (d : Decision) → turn_by s input.Tick now ≡ d → IsDone d s (moment_by s.sum now) input.Tick carried.middle carried.answered.0 → turn_by x input.Tick now ≡ quiet
  by (refused f) k done = absurd done
  by quiet k done =
      let low : after ≤ s.sum.number = omega (arith, same, b) in
      let is : x ≡ s = none_slow now after s (Some x) carried.lines behind (subst (λ m. AreEnded now m (Some x) carried.lines behind) done.0 carried.ended) summed low a in
      ap (λ y. turn_by y input.Tick now) is ∙ k
  by (makes es) k done =
      let state = after_commit s (moment_by s.sum now) es in
      let more = grown s (moment_by s.sum now) es (follows_by s summed input.Tick now es k) in
      let rises : suc after ≤ x.sum.number = ended_rises (suc after) now (Some state) (Some x) carried.lines behind (subst (λ m. AreEnded now m (Some x) carried.lines behind) done.0 carried.ended) (omega (arith, more, same, b)) in
      absurd (omega (arith, rises, a))
