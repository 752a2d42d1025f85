-- Histories that explain a server and its lines: with what a turn makes they do so after the turn.
use Rattle.std.proofs.Common.{sym, ◌∙◌, subst, ◌≡◌, ℕ, List, [], Bool, true, false, cond, Option, Some, None, is_some, IfSome, IfNone, IfOk, option_map, Result, Ok, Err, ◌⊎◌, inr}
use Rattle.std.specs.Prelude.{IsErrAnd, MatchResult}
use Rattle.pres_ids.specs.declared.id.SessionId.{SessionId}
use Rattle.pres_ids.specs.declared.id.Why.{Why}
use Rattle.pres_ids.specs.declared.id.Why.TheVariants.{Slow}
use Rattle.pres_ids.specs.Ids.{same_session}
use Rattle.pres_wire.specs.declared.down.Down.{Down}
use Rattle.pres_server.specs.declared.input.Input.{Input}
use Rattle.pres_server.specs.Sums.{Sum, is_open_in}
use Rattle.pres_server.specs.SumStates.{SumState}
use Rattle.pres_server.specs.Histories.{IsSum, History, LeadsTo, whole}
use Rattle.pres_history.proofs.Histories.{history_holds}
use Rattle.pres_ring.specs.Lines.{SessionLine, Lines, line_at, marked, struck, ChangesAt}
use Rattle.pres_ring.specs.Deliveries.{FitsTranscript, LineAfter}
use Rattle.pres_faults.specs.declared.engine_fault.EngineFault.{EngineFault}
use Rattle.pres_faults.specs.declared.engine_fault.EngineFault.TheVariants as fault
use Rattle.pres_keeper.specs.Keepers.{SomeHistory}
use Rattle.pres_keeper.proofs.Nulls.{number_made}
use Rattle.pres_keeper.specs.Engines.{EngineState, Runs, IsHistoryOf}
use Rattle.pres_keeper.specs.EngineTurns.{IsTurnDone, IsTurnRefused, MakesBatch, history_turned, history_left, history_checkpointed}
use Rattle.pres_dispatch.specs.Dispatches.{DispatcherState, Histories, CarriesTranscript, CarryTranscripts, is_hello, StandsBehind, Stands, SomeStands, started_with, histories_turned, histories_checkpointed}
use Rattle.pres_dispatch.proofs.Behind.{runs_map, summed_by}
use Rattle.pres_dispatch.proofs.Answered.{Told, with_told, told_after}

-- ---- lines that change

told_changed : (history : History) (sum : Sum) (s : SessionId) (change : Option SessionLine → Option SessionLine) (before after : Lines)
    → ((t : SessionId) (line : Option SessionLine) → CarriesTranscript history sum t line → CarriesTranscript history sum t (change line)) → ChangesAt s change before after
    → CarryTranscripts history sum before → CarryTranscripts history sum after
told_changed history sum s change before after keeps changes told t = subst (CarriesTranscript history sum t) (sym (changes t)) (by (same_session t s)) where
  by : (b : Bool) → CarriesTranscript history sum t (cond b (change (line_at t before)) (line_at t before))
  by true = keeps t (line_at t before) (told t)
  by false = told t

marked_told : (history : History) (sum : Sum) (w : Why) (t : SessionId) (line : Option SessionLine) → CarriesTranscript history sum t line → CarriesTranscript history sum t (option_map (marked w) line)
marked_told history sum w t None h = h
marked_told history sum w t (Some l) h = h

struck_told : (history : History) (sum : Sum) (w : Why) (t : SessionId) (line : Option SessionLine) → CarriesTranscript history sum t line → CarriesTranscript history sum t (option_map (struck w) line)
struck_told history sum w t None h = h
struck_told history sum w t (Some l) h = (h.0, tt)

-- those of no batch
abbrev no_histories : Histories
no_histories = record { kept = whole []; since_start = whole [] }

module _ {A : Type 0} (works : A → Type 0) (keeps : A → History → Type 0) where
  -- ---- histories that stand

  pub told_by : (held : DispatcherState A) (s : SumState) (histories : Histories) → StandsBehind works keeps held s histories → Told histories.since_start held.lines s
  told_by held s histories b = record { closed = b.explains.closed; leads = b.explains.since_start; carried = b.told }

  pub some_there : (histories : Histories) (held : DispatcherState A) → Stands works keeps histories held → SomeStands works keeps held
  some_there histories held stands =
      runs_map (λ s. StandsBehind works keeps held s histories) (λ s. (h : Histories) × StandsBehind works keeps held s h) (λ s b. (histories, b)) held.run.server stands

  -- what follows from each that stand follows from some
  pub from_some : (held : DispatcherState A) (P : Type 0) → ((histories : Histories) → Stands works keeps histories held → P) → SomeStands works keeps held → P
  from_some held P f some = by held.run.server some f where
    by : (o : Option SumState) → Runs (λ s. (h : Histories) × StandsBehind works keeps held s h) o → ((h : Histories) → Runs (λ s. StandsBehind works keeps held s h) o → P) → P
    by None h f = f no_histories tt
    by (Some s) h f = f h.0 h.1

  -- where those that stand go on so, some still stand
  pub some_goes : (old new : DispatcherState A) (on : Histories → Histories) → ((histories : Histories) → Stands works keeps histories old → Stands works keeps (on histories) new) → SomeStands works keeps old → SomeStands works keeps new
  some_goes old new on goes stands = from_some old (SomeStands works keeps new) (λ histories here. some_there (on histories) new (goes histories here)) stands

  pub leads_of : (histories : Histories) (held : DispatcherState A) → Stands works keeps histories held → IsHistoryOf histories.kept held.run.server
  leads_of histories held stands = runs_map (λ s. StandsBehind works keeps held s histories) (λ s. LeadsTo histories.kept s.sum) (λ s b. b.explains.kept) held.run.server stands

  pub sums_by : (held : DispatcherState A) → SomeStands works keeps held → Runs (λ s. IsSum s.sum) held.run.server
  sums_by held stands = runs_map (λ s. (h : Histories) × StandsBehind works keeps held s h) (λ s. IsSum s.sum) (λ s b. summed_by b.0 s.sum b.1.explains) held.run.server stands

  -- ---- lines that change with nothing said

  module _ (old new : DispatcherState A) (same : new.run ≡ old.run) where
    -- the same server, with other lines that they explain as well
    pub stands_with : (histories : Histories) → ((sum : Sum) → CarryTranscripts histories.since_start sum old.lines → CarryTranscripts histories.since_start sum new.lines)
        → Stands works keeps histories old → Stands works keeps histories new
    stands_with histories told stands =
        subst (λ run. Runs (λ s. StandsBehind works keeps (record { run = run; lines = new.lines }) s histories) run.server) (sym same)
        (runs_map (λ s. StandsBehind works keeps old s histories) (λ s. StandsBehind works keeps (record { run = old.run; lines = new.lines }) s histories)
        (λ s b. record { explains = b.explains; kept = b.kept; told = told s.sum b.told }) old.run.server stands)

    pub stands_struck : (histories : Histories) (s : SessionId) (w : Why) → ChangesAt s (option_map (struck w)) old.lines new.lines → Stands works keeps histories old → Stands works keeps histories new
    stands_struck histories s w changes = stands_with histories (λ sum. told_changed histories.since_start sum s (option_map (struck w)) old.lines new.lines (struck_told histories.since_start sum w) changes)

    -- the first one that is slow is marked, or there is none
    pub stands_slow : {R : Type 0} (histories : Histories) (found : Option SessionId) (r : Option R) → is_some r ≡ is_some found → IfSome found (λ s. ChangesAt s (option_map (marked Slow)) old.lines new.lines)
        → IfNone r (new.lines ≡ old.lines) → Stands works keeps histories old → Stands works keeps histories new
    stands_slow histories (Some s) r is changes none =
        stands_with histories (λ sum. told_changed histories.since_start sum s (option_map (marked Slow)) old.lines new.lines (marked_told histories.since_start sum Slow) changes)
    stands_slow histories None None is changes none = stands_with histories (λ sum told. subst (CarryTranscripts histories.since_start sum) (sym none) told)
    stands_slow histories None (Some x) is changes none = absurd (cc is)

  -- ---- an engine none of whose sessions is open

  module _ (run : EngineState A) (none : Runs (λ s. (t : SessionId) → is_open_in t s.sum ≡ false) run.server) (counted : Runs (λ s. run.number ≡ s.sum.number) run.server) where
    abbrev opened : DispatcherState A
    opened = record { run = run; lines = [] }

    behind_opened : (history : History) (s : SumState) → ((t : SessionId) → is_open_in t s.sum ≡ false) → run.number ≡ s.sum.number → LeadsTo history s.sum → (works run.keeper → keeps run.keeper history)
        → StandsBehind works keeps opened s (started_with history)
    behind_opened history s n c l kept = record {
      explains = record {
        kept = l;
        since_start = record { base = subst IsSum (sym l.there) (history_holds history s.sum l); legal = tt; there = l.there };
        closed = λ t. subst (λ sum. is_open_in t sum ≡ false) (sym l.there) (n t);
      };
      kept = record { held = kept; counted = c ∙ number_made history s.sum l };
      told = n;
    }

    pub stands_opened : (history : History) → IsHistoryOf history run.server → (works run.keeper → keeps run.keeper history) → Stands works keeps (started_with history) opened
    stands_opened history leads kept = by run.server none counted leads where
      by : (o : Option SumState) → Runs (λ s. (t : SessionId) → is_open_in t s.sum ≡ false) o → Runs (λ s. run.number ≡ s.sum.number) o → IsHistoryOf history o → Runs (λ s. StandsBehind works keeps opened s (started_with history)) o
      by None n c l = tt
      by (Some s) n c l = behind_opened history s n c l kept

    pub some_opened : Runs (λ s. SomeHistory (λ history. works run.keeper → keeps run.keeper history) s.sum) run.server → SomeStands works keeps opened
    some_opened some = by run.server none counted some where
      by : (o : Option SumState) → Runs (λ s. (t : SessionId) → is_open_in t s.sum ≡ false) o → Runs (λ s. run.number ≡ s.sum.number) o → Runs (λ s. SomeHistory (λ history. works run.keeper → keeps run.keeper history) s.sum) o
          → Runs (λ s. (h : Histories) × StandsBehind works keeps opened s h) o
      by None n c l = tt
      by (Some s) n c l = (started_with l.history, behind_opened l.history s n c l.leads l.held)

  -- ---- a turn

  pub with_told_at : (held : DispatcherState A) (new : Option SumState) (i : Input) (now : ℕ) (outs : List Down) → is_hello i ≡ false → SomeStands works keeps held → IsTurnDone held.run.server i now new outs → (t : SessionId) → FitsTranscript t outs (line_at t held.lines)
  with_told_at held new i now outs plain stands turned t = by held.run.server stands turned where
    by : (o : Option SumState) → Runs (λ s. (h : Histories) × StandsBehind works keeps held s h) o → IsTurnDone o i now new outs → FitsTranscript t outs (line_at t held.lines)
    by None h turned = absurd turned
    by (Some s) h turned = with_told h.0.since_start s held.lines (told_by held s h.0 h.1) now i plain new outs turned t

  module _ (old new : DispatcherState A) (worked : works new.run.keeper → works old.run.keeper) (histories : Histories) where
    -- what they are to be after the turn
    turned_by : (later : Histories) (x : SumState) → LeadsTo later.kept x.sum → (works new.run.keeper → keeps new.run.keeper later.kept) → new.run.number ≡ x.sum.number → Told later.since_start new.lines x → StandsBehind works keeps new x later
    turned_by later x leads kept counted told = record {
      explains = record { kept = leads; since_start = told.leads; closed = told.closed };
      kept = record { held = kept; counted = counted ∙ number_made later.kept x.sum leads };
      told = told.carried;
    }

    -- a turn that is done, after which these explain the lines
    pub stands_turned : (i : Input) (now : ℕ) (outs : List Down) → IsTurnDone old.run.server i now new.run.server outs
        → (IsHistoryOf histories.kept old.run.server → IsHistoryOf (history_turned histories.kept old.run.server i now) new.run.server)
        → (IsHistoryOf histories.kept old.run.server → works new.run.keeper → keeps old.run.keeper histories.kept → keeps new.run.keeper (history_turned histories.kept old.run.server i now))
        → Runs (λ s. new.run.number ≡ s.sum.number) new.run.server
        → Runs (λ s. StandsBehind works keeps old s histories → Runs (Told (history_turned histories.since_start old.run.server i now) new.lines) new.run.server) old.run.server
        → Stands works keeps histories old → Stands works keeps (histories_turned histories old.run.server i now) new
    stands_turned i now outs turned leads kept counted told stands = by old.run.server new.run.server turned leads kept counted told stands where
      by : (o n : Option SumState) → IsTurnDone o i now n outs → (IsHistoryOf histories.kept o → IsHistoryOf (history_turned histories.kept o i now) n)
          → (IsHistoryOf histories.kept o → works new.run.keeper → keeps old.run.keeper histories.kept → keeps new.run.keeper (history_turned histories.kept o i now))
          → Runs (λ s. new.run.number ≡ s.sum.number) n → Runs (λ s. StandsBehind works keeps old s histories → Runs (Told (history_turned histories.since_start o i now) new.lines) n) o
          → Runs (λ s. StandsBehind works keeps old s histories) o → Runs (λ s. StandsBehind works keeps new s (histories_turned histories o i now)) n
      by None n turned leads kept counted told b = absurd turned
      by (Some s) None turned leads kept counted told b = tt
      by (Some s) (Some x) turned leads kept counted told b =
          turned_by (histories_turned histories (Some s) i now) x (leads b.explains.kept) (λ w. kept b.explains.kept w (b.kept.held (worked w))) counted (told b)

    -- one that is no Hello, whose answers are put on the lines
    pub stands_answered : (i : Input) (now : ℕ) (outs : List Down) → is_hello i ≡ false → IsTurnDone old.run.server i now new.run.server outs
        → (IsHistoryOf histories.kept old.run.server → IsHistoryOf (history_turned histories.kept old.run.server i now) new.run.server)
        → (IsHistoryOf histories.kept old.run.server → works new.run.keeper → keeps old.run.keeper histories.kept → keeps new.run.keeper (history_turned histories.kept old.run.server i now))
        → Runs (λ s. new.run.number ≡ s.sum.number) new.run.server
        → ((t : SessionId) → LineAfter t outs (line_at t old.lines) (line_at t new.lines))
        → Stands works keeps histories old → Stands works keeps (histories_turned histories old.run.server i now) new
    stands_answered i now outs plain turned leads kept counted put stands =
        stands_turned i now outs turned leads kept counted (told old.run.server turned) stands where
          told : (o : Option SumState) → IsTurnDone o i now new.run.server outs → Runs (λ s. StandsBehind works keeps old s histories → Runs (Told (history_turned histories.since_start o i now) new.lines) new.run.server) o
          told None turned = tt
          told (Some s) turned = λ b. told_after histories.since_start s old.lines (told_by old s histories b) now i plain new.run.server outs turned new.lines put

    -- a turn that isn't done leaves them
    pub stands_refused : (i : Input) (now : ℕ) (e : EngineFault) → IsTurnRefused old.run.server i now new.run.server e
        → (IsHistoryOf histories.kept old.run.server → works new.run.keeper → keeps old.run.keeper histories.kept → keeps new.run.keeper (history_left histories.kept old.run.server i now e))
        → new.run.number ≡ old.run.number → ((t : SessionId) → line_at t new.lines ≡ line_at t old.lines)
        → Stands works keeps histories old → Stands works keeps histories new
    stands_refused i now e undone kept number same stands = by e undone kept where
      stays : new.run.server ≡ old.run.server → (IsHistoryOf histories.kept old.run.server → works new.run.keeper → keeps old.run.keeper histories.kept → keeps new.run.keeper histories.kept) → Stands works keeps histories new
      stays is kept =
          subst (Runs (λ s. StandsBehind works keeps new s histories)) (sym is) (over old.run.server kept stands) where
            over : (o : Option SumState) → (IsHistoryOf histories.kept o → works new.run.keeper → keeps old.run.keeper histories.kept → keeps new.run.keeper histories.kept)
                → Runs (λ s. StandsBehind works keeps old s histories) o → Runs (λ s. StandsBehind works keeps new s histories) o
            over None kept b = tt
            over (Some s) kept b = record {
              explains = b.explains;
              kept = record { held = λ w. kept b.explains.kept w (b.kept.held (worked w)); counted = number ∙ b.kept.counted };
              told = λ t. subst (CarriesTranscript histories.since_start s.sum t) (sym (same t)) (b.told t);
            }

      by : (e : EngineFault) → IsTurnRefused old.run.server i now new.run.server e
          → (IsHistoryOf histories.kept old.run.server → works new.run.keeper → keeps old.run.keeper histories.kept → keeps new.run.keeper (history_left histories.kept old.run.server i now e)) → Stands works keeps histories new
      by fault.Memory u kept = stays u.0 kept
      by (fault.Refused f) u kept = stays u.0 kept
      by (fault.Keeper f) u kept = stays u.0 kept
      by fault.Down u kept = subst (Runs (λ s. StandsBehind works keeps new s histories)) (sym u.0) tt

  -- of a turn that makes a batch the server runs, so the keeper holds the history as long as it works
  pub kept_of : (histories : Histories) (held : DispatcherState A) (i : Input) (now : ℕ) → MakesBatch held.run.server i now → Stands works keeps histories held → works held.run.keeper → keeps held.run.keeper histories.kept
  kept_of histories held i now made stands = by held.run.server made stands where
    by : (o : Option SumState) → MakesBatch o i now → Runs (λ s. StandsBehind works keeps held s histories) o → works held.run.keeper → keeps held.run.keeper histories.kept
    by None made b = absurd made
    by (Some s) made b = b.kept.held

  -- ---- a checkpoint

  -- the keeper keeps another history of the same server, whose lines are the same
  module _ (old new : DispatcherState A) (worked : works new.run.keeper → works old.run.keeper) (server : new.run.server ≡ old.run.server) (number : new.run.number ≡ old.run.number) (lines : new.lines ≡ old.lines) where
    stands_kept : (histories : Histories) (later : History) → IsHistoryOf later old.run.server → (works new.run.keeper → keeps old.run.keeper histories.kept → keeps new.run.keeper later)
        → Stands works keeps histories old → Stands works keeps (record { kept = later; since_start = histories.since_start }) new
    stands_kept histories later leads kept stands =
        subst (Runs (λ s. StandsBehind works keeps new s (record { kept = later; since_start = histories.since_start }))) (sym server) (by old.run.server leads stands) where
          by : (o : Option SumState) → IsHistoryOf later o → Runs (λ s. StandsBehind works keeps old s histories) o → Runs (λ s. StandsBehind works keeps new s (record { kept = later; since_start = histories.since_start })) o
          by None l b = tt
          by (Some s) l b = record {
            explains = record { kept = l; since_start = b.explains.since_start; closed = b.explains.closed };
            kept = record {
              held = λ w. kept w (b.kept.held (worked w));
              counted = number ∙ b.kept.counted ∙ sym (number_made histories.kept s.sum b.explains.kept) ∙ number_made later s.sum l;
            };
            told = subst (CarryTranscripts histories.since_start s.sum) (sym lines) b.told;
          }

    pub stands_checkpointed : (r : Result (Option ℕ) EngineFault)
        → ((history : History) → IsHistoryOf history old.run.server → IfOk r (λ done. IsHistoryOf (history_checkpointed history old.run.server done) new.run.server))
        → ((history : History) → IsHistoryOf history old.run.server → works new.run.keeper → keeps old.run.keeper history
        → MatchResult r (λ done. keeps new.run.keeper (history_checkpointed history old.run.server done)) (λ _. keeps new.run.keeper history))
        → (histories : Histories) → Stands works keeps histories old
        → MatchResult r (λ done. Stands works keeps (histories_checkpointed histories old.run.server done) new) (λ _. Stands works keeps histories new)
    stands_checkpointed (Ok done) leads kept histories stands =
        let is = leads_of histories old stands in
        stands_kept histories (history_checkpointed histories.kept old.run.server done) (subst (IsHistoryOf (history_checkpointed histories.kept old.run.server done)) server (leads histories.kept is)) (kept histories.kept is) stands
    stands_checkpointed (Err e) leads kept histories stands =
        let is = leads_of histories old stands in
        stands_kept histories histories.kept is (kept histories.kept is) stands

    pub some_checkpointed : (r : Result (Option ℕ) EngineFault)
        → ((history : History) → IsHistoryOf history old.run.server → IfOk r (λ done. IsHistoryOf (history_checkpointed history old.run.server done) new.run.server))
        → ((history : History) → IsHistoryOf history old.run.server → works new.run.keeper → keeps old.run.keeper history
        → MatchResult r (λ done. keeps new.run.keeper (history_checkpointed history old.run.server done)) (λ _. keeps new.run.keeper history))
        → SomeStands works keeps old → SomeStands works keeps new
    some_checkpointed r leads kept some = from_some old (SomeStands works keeps new) (λ histories stands. by r histories (stands_checkpointed r leads kept histories stands)) some where
      by : (r : Result (Option ℕ) EngineFault) (histories : Histories) → MatchResult r (λ done. Stands works keeps (histories_checkpointed histories old.run.server done) new) (λ _. Stands works keeps histories new) → SomeStands works keeps new
      by (Ok done) histories stands = some_there (histories_checkpointed histories old.run.server done) new stands
      by (Err e) histories stands = some_there histories new stands

  -- what follows of a server whose keeper holds the history, and of one that is down
  pub lasts_of : (histories : Histories) (held : DispatcherState A) (r : Result (Option ℕ) EngineFault) (P : SumState → Type 0)
      → ((works held.run.keeper → keeps held.run.keeper histories.kept) → IfOk r (λ done. IfSome done (λ _. Runs P held.run.server)))
      → Stands works keeps histories held → IfOk r (λ done. IfSome done (λ _. Runs P held.run.server))
  lasts_of histories held r P f stands = by held.run.server f stands where
    down : (r : Result (Option ℕ) EngineFault) → IfOk r (λ done. IfSome done (λ _. Runs P None))
    down (Ok None) = tt
    down (Ok (Some number)) = tt
    down (Err e) = tt

    by : (o : Option SumState) → ((works held.run.keeper → keeps held.run.keeper histories.kept) → IfOk r (λ done. IfSome done (λ _. Runs P o))) → Runs (λ s. StandsBehind works keeps held s histories) o
        → IfOk r (λ done. IfSome done (λ _. Runs P o))
    by None f b = down r
    by (Some s) f b = f b.kept.held

  pub found_of : (histories : Histories) (held : DispatcherState A) (F : Type 0) (P : SumState → Type 0) → ((works held.run.keeper → keeps held.run.keeper histories.kept) → F ⊎ Runs P held.run.server)
      → Stands works keeps histories held → F ⊎ Runs P held.run.server
  found_of histories held F P f stands = by held.run.server f stands where
    by : (o : Option SumState) → ((works held.run.keeper → keeps held.run.keeper histories.kept) → F ⊎ Runs P o) → Runs (λ s. StandsBehind works keeps held s histories) o → F ⊎ Runs P o
    by None f b = inr tt
    by (Some s) f b = f b.kept.held

-- what holds of any refusal holds of one that is passed on
pub refused_with : {X E : Type 0} (r : Result X E) (x : E) (P : X → Type 0) (Q : Type 0) → IsErrAnd r (λ e. e ≡ x) → Q → MatchResult r P (λ e. Q)
refused_with (Ok y) x P Q h q = absurd h
refused_with (Err e) x P Q h q = q
