-- Sessions that are ended as slow, or at the start, one after the other.
use Rattle.std.proofs.Common.{refl, sym, ap, subst, ◌≡◌, ℕ, true, List, [], ◌∷◌, Option, Some, None, is_some, option_map, ◌⊎◌, inl, inr, Result, Ok, Err, IfOk, IfErr, IfSome}
use Rattle.std.specs.Prelude.{IsSomeAnd, IsErrAnd, OnErr, MatchResult}
use Rattle.pres_ids.specs.declared.id.SessionId.{SessionId}
use Rattle.pres_ids.specs.declared.id.Why.{Why}
use Rattle.pres_ids.specs.declared.id.Why.TheVariants.{Slow}
use Rattle.pres_wire.specs.declared.down.Down.{Down}
use Rattle.pres_server.specs.declared.input.Input.{Input}
use Rattle.pres_server.specs.declared.input.Input.TheVariants as input
use Rattle.pres_server.specs.ServerStates.{first_client}
use Rattle.pres_server.specs.Turns.{Decision, refused, quiet, makes}
use Rattle.pres_server.specs.Sums.{is_open_in}
use Rattle.pres_server.specs.SumStates.{SumState}
use Rattle.pres_server.specs.Histories.{History}
use Rattle.pres_server.specs.SumTurns.{turn_by, moment_by}
use Rattle.pres_keeper.specs.Engines.{Runs}
use Rattle.pres_faults.specs.declared.engine_fault.EngineFault.{EngineFault}
use Rattle.pres_faults.specs.declared.engine_fault.EngineFault.TheVariants as fault
use Rattle.pres_keeper.specs.EngineTurns.{IsDone, IsTurnDone, IsTurnRefused, history_made, history_turned, history_left}
use Rattle.pres_ring.specs.Lines.{SessionLine, Lines, line_at, marked, IsFirstSlow, IsFirstMarked, ChangesAt}
use Rattle.pres_ids.specs.Ids.{ClientId}
use Rattle.pres_dispatch.specs.Dispatches.{DispatcherState, Histories, both, CarriesTranscript, StandsBehind, SomeStands, IsAnswered, IsNotAnswered, EndsFirstSlow, EndsSlow, AreEnded, history_if, history_slow, history_ended, AreRestarted, history_restarted, IsNoClient, StopsAtStart}

-- ---- sessions that are slow

module _ {A : Type 0} (works : A → Type 0) (keeps : A → History → Type 0) (held : DispatcherState A) (stands : SomeStands works keeps held) where
  -- a session that has a line is open
  open_there : (P : SessionLine → Type 0) (s : SessionId) → IsSomeAnd (line_at s held.lines) P → Runs (λ t. is_open_in s t.sum ≡ true) held.run.server
  open_there P s h = over held.run.server stands where
    over : (o : Option SumState) → Runs (λ t. (histories : Histories) × StandsBehind works keeps held t histories) o → Runs (λ t. is_open_in s t.sum ≡ true) o
    over None b = tt
    over (Some t) b = by (line_at s held.lines) (b.1.told s) h where
      by : (o : Option SessionLine) → CarriesTranscript b.0.since_start t.sum s o → IsSomeAnd o P → is_open_in s t.sum ≡ true
      by None tells there = absurd there
      by (Some l) tells there = tells.0

  pub open_slow : (found : Option SessionId) → IfSome found (λ s. IsFirstSlow s held.lines) → IfSome found (λ s. Runs (λ t. is_open_in s t.sum ≡ true) held.run.server)
  open_slow None first = tt
  open_slow (Some s) first = open_there _ s first.is

  pub open_marked : (found : Option (SessionId × Why)) → IfSome found (λ e. IsFirstMarked e held.lines) → IfSome found (λ e. Runs (λ t. is_open_in e.0 t.sum ≡ true) held.run.server)
  open_marked None first = tt
  open_marked (Some e) first = open_there _ e.0 first.why

not_answered : (i : Input) (now : ℕ) (old new : Option SumState) (e : EngineFault) → IsTurnRefused old i now new e → IsNotAnswered old i now new e
not_answered i now old new fault.Memory h = h.0
not_answered i now old new (fault.Refused f) h = h
not_answered i now old new (fault.Keeper f) h = h
not_answered i now old new fault.Down h = h

-- the first history where it is done, and else the second
abbrev pub if_done : {U E : Type 0} → Result U E → History → History → History
if_done (Ok x) made same = made
if_done (Err e) made same = same

-- histories that go on so, or stay
pub goes_on : {U E : Type 0} (r : Result U E) (P : Histories → Type 0) (made : History → History) (histories : Histories) → MatchResult r (λ _. P (both made histories)) (λ _. P histories)
    → P (both (λ history. if_done r (made history) history) histories)
goes_on (Ok x) P made histories h = h
goes_on (Err e) P made histories h = h

-- these ends come before the others, and the history after both is that of the others after this one
abbrev pub Before : (now : ℕ) (old new after : Option SumState) (before lines behind : Lines) → (History → History) → AreEnded now new after lines behind → Type 0
Before now old new after before lines behind on h = (e : AreEnded now old after before behind) × ((history : History) → history_ended history e ≡ history_ended (on history) h)

module _ (now : ℕ) (old : Option SumState) (before middle : Lines) (found : Option SessionId)
    (first : IfSome found (λ s. IsFirstSlow s before))
    (opened : IfSome found (λ s. Runs (λ t. is_open_in s t.sum ≡ true) old))
    (marks : IfSome found (λ s. ChangesAt s (option_map (marked Slow)) before middle)) where
  -- one more at the front, by a turn that is done or isn't
  pub slow_turned : {U : Type 0} (s : SessionId) (new after : Option SumState) (lines behind : Lines) (r : Result U EngineFault) → found ≡ Some s
      → IfOk r (λ _. IsAnswered old (input.Slow s) now new middle lines) → IfErr r (IsTurnRefused old (input.Slow s) now new) → OnErr r (lines ≡ middle)
      → (h : AreEnded now new after lines behind) → Before now old new after before lines behind (λ history. if_done r (history_turned history old (input.Slow s) now) history) h
  slow_turned {U} s new after lines behind r is ok err same h = (
    record { sessions = s ∷ h.sessions; ends = (new, lines, step, h.ends) },
    λ history. ap (λ x. history_ended x h) ((by r ok err same).1 (history_turned history old (input.Slow s) now) history),
  ) where
    Step : Type 0
    Step = IsAnswered old (input.Slow s) now new middle lines ⊎ ((e : EngineFault) × IsNotAnswered old (input.Slow s) now new e × (lines ≡ middle))

    by : (r : Result U EngineFault) → IfOk r (λ _. IsAnswered old (input.Slow s) now new middle lines) → IfErr r (IsTurnRefused old (input.Slow s) now new) → OnErr r (lines ≡ middle)
        → (u : Step) × ((a b : History) → history_if u a b ≡ if_done r a b)
    by (Ok x) ok err same = (inl ok, λ a b. refl)
    by (Err e) ok err same = (inr (e, not_answered (input.Slow s) now old new e err, same), λ a b. refl)

    step : EndsFirstSlow now s old new before lines
    step = record {
      first = subst (λ o. IfSome o (λ t. IsFirstSlow t before)) is first;
      opened = subst (λ o. IfSome o (λ t. Runs (λ x. is_open_in t x.sum ≡ true) old)) is opened;
      middle = middle;
      marks = subst (λ o. IfSome o (λ t. ChangesAt t (option_map (marked Slow)) before middle)) is marks;
      ended = (by r ok err same).0;
    }

  -- and where the session's id isn't copied
  pub slow_unheard : is_some found ≡ true → (after : Option SumState) (behind : Lines) → (h : AreEnded now old after middle behind) → Before now old old after before middle behind (λ history. history) h
  slow_unheard is after behind h = by found is first opened marks where
    by : (o : Option SessionId) → is_some o ≡ true → IfSome o (λ s. IsFirstSlow s before) → IfSome o (λ s. Runs (λ t. is_open_in s t.sum ≡ true) old)
        → IfSome o (λ s. ChangesAt s (option_map (marked Slow)) before middle) → Before now old old after before middle behind (λ history. history) h
    by None k f o m = absurd (cc k)
    by (Some s) k f o m = (
      record { sessions = s ∷ h.sessions; ends = (old, middle, record { first = f; opened = o; middle = middle; marks = m; ended = inr (fault.Memory, refl, refl) }, h.ends) },
      λ history. refl,
    )

-- ---- what is kept by the ends of slow sessions

-- what holds of a server and of a history holds after the ends of slow sessions, where each turn that is done keeps it
module _ (P : History → SumState → Type 0) (now : ℕ)
    (keeps : (history : History) (x : SumState) (s : SessionId) (new : Option SumState) (outs : List Down) → is_open_in s x.sum ≡ true → IsTurnDone (Some x) (input.Slow s) now new outs → P history x
    → Runs (P (history_turned history (Some x) (input.Slow s) now)) new) where
  slow_step : (history : History) (s : SessionId) (old new : Option SumState) (before after : Lines) → (step : EndsFirstSlow now s old new before after) → Runs (P history) old
      → Runs (P (history_if step.ended (history_turned history old (input.Slow s) now) history)) new
  slow_step history s old new before after step h = by step.ended where
    answered : (o : Option SumState) (outs : List Down) → IsTurnDone o (input.Slow s) now new outs → Runs (λ t. is_open_in s t.sum ≡ true) o → Runs (P history) o → Runs (P (history_turned history o (input.Slow s) now)) new
    answered None outs turned opened k = absurd turned
    answered (Some x) outs turned opened k = keeps history x s new outs opened turned k

    unanswered : (e : EngineFault) → IsNotAnswered old (input.Slow s) now new e → Runs (P history) new
    unanswered fault.Memory u = subst (Runs (P history)) (sym u) h
    unanswered (fault.Refused f) u = subst (Runs (P history)) (sym u.0) h
    unanswered (fault.Keeper f) u = subst (Runs (P history)) (sym u.0) h
    unanswered fault.Down u = subst (Runs (P history)) (sym u.0) tt

    by : (u : IsAnswered old (input.Slow s) now new step.middle after ⊎ ((e : EngineFault) × IsNotAnswered old (input.Slow s) now new e × (after ≡ step.middle)))
        → Runs (P (history_if u (history_turned history old (input.Slow s) now) history)) new
    by (inl a) = answered old a.0 a.1 step.opened h
    by (inr u) = unanswered u.0 u.1

  slow_all : (history : History) (ss : List SessionId) (old new : Option SumState) (before after : Lines) → (ends : EndsSlow now ss old new before after) → Runs (P history) old → Runs (P (history_slow history now ss old new before after ends)) new
  slow_all history [] old new before after ends h = subst (Runs (P history)) (sym ends.0) h
  slow_all history (s ∷ ss) old new before after ends h =
      slow_all (history_if ends.2.ended (history_turned history old (input.Slow s) now) history) ss ends.0 new ends.1 after ends.3 (slow_step history s old ends.0 before ends.1 ends.2 h)

  pub slow_keeps : (history : History) (old new : Option SumState) (before after : Lines) → (ended : AreEnded now old new before after) → Runs (P history) old → Runs (P (history_ended history ended)) new
  slow_keeps history old new before after ended h = slow_all history ended.sessions old new before after ended.ends h

-- ---- the start

-- a refusal that is passed on
pub passed_on : {X E : Type 0} (r : Result X E) (x : E) (P : E → Type 0) → IsErrAnd r (λ e. e ≡ x) → P x → IfErr r P
passed_on (Ok y) x P h p = absurd h
passed_on (Err e) x P h p = subst P (sym h) p

-- these ends come before the others, and the history after both is that of the others after this one
abbrev pub BeforeAtStart : (now : ℕ) (old new after : Option SumState) → (History → History) → AreRestarted now new after → Type 0
BeforeAtStart now old new after on h = (e : AreRestarted now old after) × ((history : History) → history_restarted history e ≡ history_restarted (on history) h)

-- one more at the front
pub restarted_by : (now : ℕ) (c : ClientId) (old new after : Option SumState) (outs : List Down) → Runs (λ s. first_client s.heard ≡ Some c) old → IsTurnDone old (input.Restart c) now new outs
    → (h : AreRestarted now new after) → BeforeAtStart now old new after (λ history. history_turned history old (input.Restart c) now) h
restarted_by now c None new after outs first turned h = absurd turned
restarted_by now c (Some s) new after outs first turned h = by (turn_by s (input.Restart c) now) refl turned h where
  Then : Option SumState → Type 0
  Then x = (k : AreRestarted now x after) → BeforeAtStart now (Some s) x after (λ history. history_turned history (Some s) (input.Restart c) now) k

  by : (d : Decision) → turn_by s (input.Restart c) now ≡ d → IsDone d s (moment_by s.sum now) (input.Restart c) new outs → Then new
  by (refused f) k done = absurd done
  by quiet k done = subst Then (sym done.0) (λ h. (record { clients = h.clients; ends = h.ends }, λ history. ap (λ d. history_restarted (history_made history s.sum (moment_by s.sum now) d) h) (sym k)))
  by (makes es) k done = subst Then (sym done.0) (λ h. (record { clients = c ∷ h.clients; ends = (first, es, k, h.ends) }, λ history. refl))

-- the start stops where no client is handed out
pub stops_before : (keeps : History → Type 0) (now : ℕ) (history : History) (old middle : Option SumState) (e : EngineFault) → (ended : AreRestarted now old middle) → IsNoClient middle e → keeps (history_restarted history ended)
    → StopsAtStart keeps now history old e
stops_before keeps now history old None e ended none kept =
    subst (StopsAtStart keeps now history old) (sym none)
    (record { middle = None; ended = ended; client = []; first = tt; new = None; refused = (refl, inl refl); kept = kept })
stops_before keeps now history old (Some s) e ended none kept =
    subst (StopsAtStart keeps now history old) (sym none.0)
    (record { middle = Some s; ended = ended; client = none.1; first = none.2; new = Some s; refused = refl; kept = kept })

-- and where the end isn't done
pub stops_at : (keeps : History → Type 0) (now : ℕ) (history : History) (old middle new : Option SumState) (c : ClientId) (e : EngineFault) → (ended : AreRestarted now old middle)
    → Runs (λ s. first_client s.heard ≡ Some c) middle → IsTurnRefused middle (input.Restart c) now new e → keeps (history_left (history_restarted history ended) middle (input.Restart c) now e)
    → StopsAtStart keeps now history old e
stops_at keeps now history old middle new c e ended first undone kept =
    record { middle = middle; ended = ended; client = c; first = first; new = new; refused = not_answered (input.Restart c) now middle new e undone; kept = kept }
