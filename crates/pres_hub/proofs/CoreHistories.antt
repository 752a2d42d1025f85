-- The histories that explain the value under a hub's lock, from call to call.
use Rattle.std.proofs.Common.{refl, sym, ◌∙◌, ap, subst, ◌≡◌, ◌<◌, ◌^◌, ℕ, [], ◌++◌, append-nil, append_assoc, Bool, true, false, if◌then◌else◌, option_map, Option, Some, None, ◌⊎◌, inl, inr, Result, Ok, Err}
use Rattle.std.specs.Prelude.{OnErr, IfNone, IfSome}
use Rattle.pres_ids.specs.declared.id.SessionId.{SessionId}
use Rattle.pres_ids.specs.declared.id.Why.{Why}
use Rattle.pres_ids.specs.Ids.{same_session}
use Rattle.pres_server.specs.declared.input.Input.{Input}
use Rattle.pres_server.specs.Sums.{nothing, is_open_in}
use Rattle.pres_server.specs.SumStates.{SumState}
use Rattle.pres_server.specs.Histories.{IsSum, History, LeadsTo, begun_at}
use Rattle.pres_ring.specs.Lines.{SessionLine, Lines, line_at, is_slow, struck, ChangesAt}
use Rattle.pres_keeper.specs.Engines.{Runs}
use Rattle.pres_faults.specs.HubFaults.{of_engine}
use Rattle.pres_faults.specs.declared.engine_fault.EngineFault.{EngineFault}
use Rattle.pres_faults.specs.declared.engine_fault.EngineFault.TheVariants as fault
use Rattle.pres_keeper.specs.EngineTurns.{IsNotCheckpointed, history_turned}
use Rattle.pres_dispatch.specs.Dispatches.{DispatcherState, Histories, both, both_with, StandsBehind, Stands, SomeStands, AreEnded, NoneSlow, histories_turned, history_ended, histories_ended, histories_checkpointed, last_sum, started_with, CarriesTranscript}
use Rattle.pres_dispatch.proofs.Behind.{runs_map, summed_by}
use Rattle.pres_dispatch.proofs.Growing.{Adds, both_added, adds_twice, turned_adds, ended_adds}
use Rattle.pres_accounting.specs.declared.tally.Counts.{Counts}
use Rattle.pres_hub.specs.Cores.{CoreState, AreAccepted, CoreHistories, AreCoreHistories, GoesOn, dispatched}
use Rattle.pres_hub.specs.CoreCalls.{IsCheckpointRefused}
use Rattle.pres_hub.specs.CoreTurns.{histories_carried, CarriesOn, StandsStill, CheckpointsOn}
use Rattle.pres_hub.proofs.Counted.{Accepted, none_accepted, ended_accepted, few_accepted}

-- without a batch
abbrev pub no_histories : Histories
no_histories = record { kept = begun_at nothing; since_start = begun_at nothing }

module _ {A : Type 0} (works : A → Type 0) (keeps : A → History → Type 0) where
  -- some histories are there
  abbrev pub SomeCoreHistories : CoreState A → Type 0
  SomeCoreHistories held = Runs (λ s. (histories : Histories) × CoreHistories works keeps held s histories) held.run.server

  pub stands_of : (h : Histories) (held : CoreState A) → AreCoreHistories works keeps h held → Stands works keeps h (dispatched held)
  stands_of h held k = runs_map (λ s. CoreHistories works keeps held s h) (λ s. StandsBehind works keeps (dispatched held) s h) (λ s c. c.behind) held.run.server k

  pub accepted_of_histories : (h : Histories) (held : CoreState A) → AreCoreHistories works keeps h held → Runs (Accepted held.start held.counts.accepted h.since_start) held.run.server
  accepted_of_histories h held k =
      runs_map (λ s. CoreHistories works keeps held s h) (Accepted held.start held.counts.accepted h.since_start) (λ s c. (c.behind.explains.since_start, c.counted)) held.run.server k

  pub core_histories : (h : Histories) (held : CoreState A) → Stands works keeps h (dispatched held) → Runs (Accepted held.start held.counts.accepted h.since_start) held.run.server → AreCoreHistories works keeps h held
  core_histories h held stands k = by held.run.server stands k where
    by : (o : Option SumState) → Runs (λ s. StandsBehind works keeps (dispatched held) s h) o → Runs (Accepted held.start held.counts.accepted h.since_start) o → Runs (λ s. CoreHistories works keeps held s h) o
    by None b a = tt
    by (Some s) b a = record { behind = b; counted = a.1 }

  pub some_core_histories : (h : Histories) (held : CoreState A) → AreCoreHistories works keeps h held → SomeCoreHistories held
  some_core_histories h held k = runs_map (λ s. CoreHistories works keeps held s h) (λ s. (l : Histories) × CoreHistories works keeps held s l) (λ s c. (h, c)) held.run.server k

  -- what follows from histories that stand follows from some
  pub from_some : (held : CoreState A) (P : Type 0) → SomeCoreHistories held → ((h : Histories) → AreCoreHistories works keeps h held → P) → P
  from_some held P some f = by held.run.server some f where
    by : (o : Option SumState) → Runs (λ s. (h : Histories) × CoreHistories works keeps held s h) o → ((h : Histories) → Runs (λ s. CoreHistories works keeps held s h) o → P) → P
    by None k f = f no_histories tt
    by (Some s) k f = f k.0 k.1

  -- ---- from call to call

  pub some_goes_on : (old new : CoreState A) → GoesOn works keeps old new → SomeCoreHistories old → SomeCoreHistories new
  some_goes_on old new goes some =
      from_some old (SomeCoreHistories new) some (λ h k. let on = goes h k in some_core_histories (both_with h on.0) new on.1)

  pub goes_twice : (a b c : CoreState A) → GoesOn works keeps a b → GoesOn works keeps b c → GoesOn works keeps a c
  goes_twice a b c first second h k =
      let x = first h k in
      let y = second (both_with h x.0) x.1 in
      let same : both_with (both_with h x.0) y.0 ≡ both_with h (x.0 ++ y.0) = λ i. record {
        kept = record { base = h.kept.base; log = append_assoc h.kept.log x.0 y.0 i };
        since_start = record { base = h.since_start.base; log = append_assoc h.since_start.log x.0 y.0 i };
      } in
      (x.0 ++ y.0, subst (λ l. AreCoreHistories works keeps l c) same y.1)

  nothing_more : (h : Histories) → h ≡ both_with h []
  nothing_more h = λ i. record {
    kept = record { base = h.kept.base; log = sym (append-nil h.kept.log) i };
    since_start = record { base = h.since_start.base; log = sym (append-nil h.since_start.log) i };
  }

  pub goes_none : (held : CoreState A) → GoesOn works keeps held held
  goes_none held h k = ([], subst (λ l. AreCoreHistories works keeps l held) (nothing_more h) k)

  -- a server that stays or goes down, while what is kept may be replaced
  re_stands : (kept : History) (old new : CoreState A) (h : Histories) → (Stands works keeps h (dispatched old) → Stands works keeps (record { kept = kept; since_start = h.since_start }) (dispatched new))
      → (new.run.server ≡ old.run.server) ⊎ (new.run.server ≡ None) → new.start ≡ old.start → new.counts.accepted ≡ old.counts.accepted
      → AreCoreHistories works keeps h old → AreCoreHistories works keeps (record { kept = kept; since_start = h.since_start }) new
  re_stands kept old new h stands server start counts k =
      core_histories (record { kept = kept; since_start = h.since_start }) new (stands (stands_of h old k)) (by (accepted_of_histories h old k) server) where
        by : Runs (Accepted old.start old.counts.accepted h.since_start) old.run.server → (new.run.server ≡ old.run.server) ⊎ (new.run.server ≡ None) → Runs (Accepted new.start new.counts.accepted h.since_start) new.run.server
        by a (inl same) =
            subst (Runs (Accepted new.start new.counts.accepted h.since_start)) (sym same)
            (subst (λ n. Runs (Accepted n new.counts.accepted h.since_start) old.run.server) (sym start) (subst (λ n. Runs (Accepted old.start n h.since_start) old.run.server) (sym counts) a))
        by a (inr gone) = subst (Runs (Accepted new.start new.counts.accepted h.since_start)) (sym gone) tt

  -- nothing is made, by a server that stays or goes down
  pub stands_still : (old new : CoreState A) → ((h : Histories) → Stands works keeps h (dispatched old) → Stands works keeps h (dispatched new)) → (new.run.server ≡ old.run.server) ⊎ (new.run.server ≡ None) → new.start ≡ old.start
      → new.counts.accepted ≡ old.counts.accepted → StandsStill works keeps old new
  stands_still old new stands server start counts h k = re_stands h.kept old new h (stands h) server start counts k

  pub goes_still : (old new : CoreState A) → StandsStill works keeps old new → GoesOn works keeps old new
  goes_still old new still h k = ([], subst (λ l. AreCoreHistories works keeps l new) (nothing_more h) (still h k))

  pub goes_same : (old new : CoreState A) → ((h : Histories) → Stands works keeps h (dispatched old) → Stands works keeps h (dispatched new)) → (new.run.server ≡ old.run.server) ⊎ (new.run.server ≡ None) → new.start ≡ old.start
      → new.counts.accepted ≡ old.counts.accepted → GoesOn works keeps old new
  goes_same old new stands server start counts = goes_still old new (stands_still old new stands server start counts)

  -- ---- a checkpoint

  pub checkpoints_on : (number : Option ℕ) (old new : CoreState A) → ((h : Histories) → Stands works keeps h (dispatched old) → Stands works keeps (histories_checkpointed h old.run.server number) (dispatched new))
      → new.run.server ≡ old.run.server → new.start ≡ old.start → new.counts.accepted ≡ old.counts.accepted → CheckpointsOn works keeps number old new
  checkpoints_on number old new stands server start counts h k = re_stands (histories_checkpointed h old.run.server number).kept old new h (stands h) (inl server) start counts k

  pub some_checkpointed : (number : Option ℕ) (old new : CoreState A) → CheckpointsOn works keeps number old new → SomeCoreHistories old → SomeCoreHistories new
  some_checkpointed number old new on some =
      from_some old (SomeCoreHistories new) some (λ h k. some_core_histories (histories_checkpointed h old.run.server number) new (on h k))

  -- ---- the start

  -- at the start nothing is counted yet
  pub core_started : (history : History) (held : CoreState A) → held.start ≡ held.run.number → held.counts.accepted ≡ 0 → Runs (λ s. held.run.number ≡ s.sum.number) held.run.server → Stands works keeps (started_with history) (dispatched held)
      → AreCoreHistories works keeps (started_with history) held
  core_started history held start none counted stands = by held.run.server counted stands where
    by : (o : Option SumState) → Runs (λ s. held.run.number ≡ s.sum.number) o → Runs (λ s. StandsBehind works keeps (dispatched held) s (started_with history)) o → Runs (λ s. CoreHistories works keeps held s (started_with history)) o
    by None c b = tt
    by (Some s) c b = record {
      behind = b;
      counted = subst (λ n. AreAccepted held.start n (begun_at (last_sum history))) (sym none) (none_accepted held.start (last_sum history) s.sum b.explains.since_start.there (start ∙ c));
    }

  -- the history since the start of a server without open sessions begins at its sum
  pub some_started : (held : CoreState A) → held.start ≡ held.run.number → held.counts.accepted ≡ 0 → held.lines ≡ [] → Runs (λ s. held.run.number ≡ s.sum.number) held.run.server
      → Runs (λ s. (t : SessionId) → is_open_in t s.sum ≡ false) held.run.server → SomeStands works keeps (dispatched held) → SomeCoreHistories held
  some_started held start none lines counted closed some = by held.run.server counted closed some where
    by : (o : Option SumState) → Runs (λ s. held.run.number ≡ s.sum.number) o → Runs (λ s. (t : SessionId) → is_open_in t s.sum ≡ false) o → Runs (λ s. (h : Histories) × StandsBehind works keeps (dispatched held) s h) o
        → Runs (λ s. (h : Histories) × CoreHistories works keeps held s h) o
    by None c n b = tt
    by (Some s) c n b =
        let begun : History = begun_at s.sum in (
          record { kept = b.0.kept; since_start = begun },
          record {
            behind = record {
              explains = record {
                kept = b.1.explains.kept;
                since_start = record { base = summed_by b.0 s.sum b.1.explains; legal = tt; there = refl };
                closed = n;
              };
              kept = b.1.kept;
              told = λ t. subst (λ (l : Lines). CarriesTranscript begun s.sum t (line_at t l)) (sym lines) (n t);
            };
            counted = subst (λ m. AreAccepted held.start m begun) (sym none) (none_accepted held.start s.sum s.sum refl (start ∙ c));
          },
        )

  -- ---- a turn, and then the ends of slow sessions

  module _ (old new : CoreState A) (mid : DispatcherState A) (i : Input) (now : ℕ) (start : new.start ≡ old.start)
      (turned : (h : Histories) → Stands works keeps h (dispatched old) → Stands works keeps (histories_turned h old.run.server i now) mid)
      (counted : (history : History) → Runs (Accepted old.start old.counts.accepted history) old.run.server → Runs (Accepted old.start new.counts.accepted (history_turned history old.run.server i now)) mid.run.server)
      (ended : (h : Histories) → Stands works keeps h mid → (ended : AreEnded now mid.run.server new.run.server mid.lines new.lines) × Stands works keeps (histories_ended h ended) (dispatched new)) where
    pub carries_on : (h : Histories) → AreCoreHistories works keeps h old → (e : AreEnded now mid.run.server new.run.server mid.lines new.lines) × AreCoreHistories works keeps (histories_ended (histories_turned h old.run.server i now) e) new
    carries_on h k =
        let middle : Histories = histories_turned h old.run.server i now in
        let e = ended middle (turned h (stands_of h old k)) in
        let all = ended_accepted old.start new.counts.accepted now middle.since_start mid.run.server new.run.server mid.lines new.lines e.0 (counted h.since_start (accepted_of_histories h old k)) in (
          e.0,
          core_histories (histories_ended middle e.0) new e.1 (subst (λ n. Runs (Accepted n new.counts.accepted (histories_ended middle e.0).since_start) new.run.server) (sym start) all),
        )

    pub goes_carried : GoesOn works keeps old new
    goes_carried h k =
        let on = carries_on h k in
        let change : History → History = λ history. history_ended (history_turned history old.run.server i now) on.0 in
        let adds : Adds change =
        adds_twice (λ history. history_turned history old.run.server i now) (λ history. history_ended history on.0) (turned_adds old.run.server i now) (ended_adds now mid.run.server new.run.server mid.lines new.lines on.0) in
        (adds.0, subst (λ l. AreCoreHistories works keeps l new) (both_added change h adds) on.1)

  -- the count is small while the server runs
  pub few_runs : (held : CoreState A) → SomeCoreHistories held → Runs (λ s. held.counts.accepted < 2 ^ 53) held.run.server
  few_runs held some =
      runs_map (λ s. (h : Histories) × CoreHistories works keeps held s h) (λ s. held.counts.accepted < 2 ^ 53)
      (λ s c. few_accepted held.start held.counts.accepted c.0.since_start s (c.1.behind.explains.since_start, c.1.counted)) held.run.server some

  pub sums_of : (held : CoreState A) → SomeCoreHistories held → Runs (λ s. IsSum s.sum) held.run.server
  sums_of held some =
      runs_map (λ s. (h : Histories) × CoreHistories works keeps held s h) (λ s. IsSum s.sum) (λ s c. summed_by c.0 s.sum c.1.behind.explains) held.run.server some

  -- counts that differ in seats alone
  module _ (a : CoreState A) (counts : Counts) (same : counts.accepted ≡ a.counts.accepted) where
    abbrev recounted : CoreState A
    recounted = record { run = a.run; lines = a.lines; counts = counts; start = a.start }

    still_recounted : StandsStill works keeps a recounted
    still_recounted = stands_still a recounted (λ h stands. stands) (inl refl) refl same

    pub carries_recounted : (i : Input) (now : ℕ) (old : CoreState A) → CarriesOn works keeps i now old a → CarriesOn works keeps i now old recounted
    carries_recounted i now old carries h stands =
        let k = carries h stands in
        (k.0, still_recounted (histories_carried h k.0) k.1)

-- what holds where there is none
pub on_none : {X : Type 0} (o : Option X) (P : Type 0) → P → IfNone o P
on_none None P p = p
on_none (Some x) P p = tt

-- a refusal keeps what holds
pub on_err : {X E : Type 0} (r : Result X E) (P : Type 0) → P → OnErr r P
on_err (Ok x) P p = tt
on_err (Err e) P p = p

-- a checkpoint that isn't made, as a hub says it
pub not_checkpointed : (server : Option SumState) (e : EngineFault) → IsNotCheckpointed server e → IsCheckpointRefused server (of_engine e)
not_checkpointed None e h = ap of_engine h
not_checkpointed (Some s) (fault.Keeper f) h = h
not_checkpointed (Some s) fault.Memory h = absurd h
not_checkpointed (Some s) (fault.Refused f) h = absurd h
not_checkpointed (Some s) fault.Down h = absurd h

-- a line that is struck is marked
pub struck_none_slow : (session : SessionId) (why : Why) (old new : Lines) → NoneSlow old → ChangesAt session (option_map (struck why)) old new → NoneSlow new
struck_none_slow session why old new none changes s = subst (λ line. IfSome line (λ l. is_slow l ≡ false)) (sym (changes s)) (by (same_session s session) (line_at s old) (none s)) where
  by : (b : Bool) (line : Option SessionLine) → IfSome line (λ l. is_slow l ≡ false) → IfSome (if b then option_map (struck why) line else line) (λ l. is_slow l ≡ false)
  by true None h = tt
  by true (Some l) h = refl
  by false line h = h
