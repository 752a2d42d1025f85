-- A server that holds the sum of its log does what the log says.
use Rattle.std.proofs.Common.{refl, sym, ◌∙◌, ap, subst, ◌≡◌, ℕ, ◌+◌, min, max, true, false, true≢false, List, [], ◌∷◌, ◌++◌, append-nil, Option, Some, None, is_some, MatchOption}
use Rattle.std.specs.Prelude.{⊤}
use Rattle.std.specs.Option.{option_map}
use Rattle.pres_write.specs.Moments as moments
use Rattle.pres_ids.specs.declared.id.SessionId.{SessionId}
use Rattle.pres_ids.specs.declared.id.Stamp.{Stamp}
use Rattle.pres_ids.specs.Ids.{ClientId}
use Rattle.pres_wire.specs.declared.down.Down.{Down}
use Rattle.pres_wire.specs.declared.down.Down.TheVariants.{Fault}
use Rattle.pres_wire.specs.declared.down.Code.{Code}
use Rattle.pres_log.specs.declared.entry.Batch.{Batch}
use Rattle.pres_log.specs.declared.entry.Entry.{Entry}
use Rattle.pres_log.specs.declared.fault.Fault.{Fault as Refusal}
use Rattle.pres_log.specs.Faults.{code_of}
use Rattle.pres_log.specs.Logs.{Log, entries}
use Rattle.pres_server.specs.declared.input.Input.{Input}
use Rattle.pres_server.specs.declared.server.Turn.TheVariants as turn_of
use Rattle.pres_server.specs.InternalParts.{session_with}
use Rattle.pres_history.specs.LegalLog.{MayFollow, IsLegal}
use Rattle.pres_history.specs.ServerStates.{ServerState}
use Rattle.pres_server.specs.ServerStates.{heard_from}
use Rattle.pres_history.specs.Sessions.{has_open}
use Rattle.pres_history.specs.Streams.{answers}
use Rattle.pres_server.specs.Turns.{Decision, makes, quiet, refused}
use Rattle.pres_history.specs.Turns.{turn, moment_of, batch_of}
use Rattle.pres_server.specs.Sums.{Sum, has_open_in, open_stamp_in, sum_of, sum_with}
use Rattle.pres_server.specs.SumAnswers.{answers_by}
use Rattle.pres_server.specs.SumStates.{SumState, PendingTurn}
use Rattle.pres_server.specs.SumTurns.{FollowsSum, IsTurn, turn_by, moment_by, batch_by, after_commit}
use Rattle.pres_history.proofs.LegalLogs.{legal_after}
use Rattle.pres_history.specs.SumLaws.{SumSays}
use Rattle.pres_history.proofs.Whole.{sum_says, readers_say}
use Rattle.pres_world.specs.declared.event.Ending.{Ending}
use Rattle.pres_world.specs.declared.event.Ending.TheVariants as ending
use Rattle.pres_world.specs.ServerSides.{ServerSideState, ServerSideInvariant, IsBaseIn, of_log, HasLog, HoldsSum, fault_for, log_with, goes_on, turned, served, open_on, checkpointed}
use Rattle.pres_world.proofs.Bases.{based_more, based_all}

-- ---- the server's part of a world

-- the fields of a server's part, as contracts see them
abbrev pub viewed : Log → Sum → Option SumState → List Down → ServerSideState
viewed log base server downs = record { server = option_map (of_log log) server; base = base; history = log; downs = downs }

its_own : (log : Log) (server : Option SumState) → MatchOption (option_map (of_log log) server) ⊤ (λ s. s.log ≡ log)
its_own log None = tt
its_own log (Some s) = refl

-- what contracts see holds what is said of it
pub holds_seen : (w : ServerSideState) (log : Log) (base : Sum) (server : Option SumState) (downs : List Down) → viewed log base server downs ≡ w → HoldsSum log base server → ServerSideInvariant w
holds_seen w log base server downs view holds = subst ServerSideInvariant view (record { legal = holds.legal; its_log = its_own log server; based = holds.based })

-- once a server of its history runs
pub runs_holds : (log old : Log) (base : Sum) (before server : Option SumState) (value : SumState) → HoldsSum log base before → log ≡ old → server ≡ Some value → value.sum ≡ sum_of old → HoldsSum log base server
runs_holds log old base before server value holds e is same = record {
  legal = holds.legal;
  based = holds.based;
  summed = subst (λ o. MatchOption o ⊤ (λ s. s.sum ≡ sum_of log)) (sym is) (same ∙ ap sum_of (sym e));
}

pub runs_view : (log old : Log) (base kept : Sum) (server : Option SumState) (value s : SumState) (downs told : List Down) → log ≡ old → base ≡ kept → server ≡ Some value → value ≡ s → downs ≡ told
    → let now : ServerSideState = record { server = Some (of_log old s); base = kept; history = old; downs = told } in
    viewed log base server downs ≡ now
runs_view log old base kept server value s downs told e k is same d = λ i. viewed (e i) (k i) ((is ∙ ap Some same) i) (d i)

-- a refusal goes to a session where there is one
pub fault_told : (session : Option SessionId) (code : Code) → is_some session ≡ true → Fault session code ∷ [] ≡ fault_for session code
fault_told None code h = absurd (true≢false (sym h))
fault_told (Some s) code h = refl

pub no_fault : (session : Option SessionId) (code : Code) (downs : List Down) → is_some session ≡ false → downs ≡ downs ++ fault_for session code
no_fault None code downs h = sym (append-nil downs)
no_fault (Some s) code downs h = absurd (true≢false h)

-- ---- a turn

abbrev with_sum : SumState → Sum → SumState
with_sum s sum = record { sum = sum; heard = s.heard }

pub turn_is : (log : Log) (s : SumState) (i : Input) (now : ℕ) → IsLegal log → s.sum ≡ sum_of log → turn_by s i now ≡ turn (of_log log s) i now
turn_is log s i now legal same = ap (λ x. turn_by (with_sum s x) i now) same ∙ (sum_says log legal).turns s.heard i now

pub moment_is : (log : Log) (sum : Sum) (now : ℕ) → IsLegal log → sum ≡ sum_of log → moment_by sum now ≡ moment_of log now
moment_is log sum now legal same = ap (λ x. moment_by x now) same ∙ ap (max (min now moments.last_moment)) (sum_says log legal).moment

-- ---- a batch

-- the batch of a turn is that of its log, and with it the sum is that of the log with the batch
pub record Commits (log : Log) (s : SumState) (m : ℕ) (es : List Entry) : Type 0 where
  pub batch : batch_by s.sum m es ≡ batch_of log m es
  pub summed : (after_commit s m es).sum ≡ sum_of (log ++ batch_of log m es ∷ [])
  pub legal : IsLegal (log ++ batch_of log m es ∷ [])
  pub answered : answers_by s.sum es ≡ answers (entries log) es

pub commits : (log : Log) (s : SumState) (m : ℕ) (es : List Entry) → IsLegal log → s.sum ≡ sum_of log → FollowsSum s.sum (batch_by s.sum m es) → Commits log s m es
commits log s m es legal same follows = record {
  batch = here;
  summed = ap (λ (x : Sum). sum_with x (batch_by x m es)) same ∙ says.committed m (makes es);
  legal = legal_after log (batch_of log m es) legal may;
  answered = ap (λ (x : Sum). answers_by x es) same ∙ says.answered (batch_of log m es) may;
} where
  says : SumSays log
  says = sum_says log legal

  numbered : ℕ → Batch
  numbered n = record { first = n + 1; moment = m; entries = es }

  here : batch_by s.sum m es ≡ batch_of log m es
  here = ap (λ (x : Sum). batch_by x m es) same ∙ ap numbered says.says.number

  may : MayFollow log (batch_of log m es)
  may = subst (MayFollow log) here ((says.follows (batch_by s.sum m es)).0 (subst (λ x. FollowsSum x (batch_by s.sum m es)) same follows))

-- the batch of a turn was kept after the log
pub record IsKept (log new : Log) (busy : PendingTurn) : Type 0 where
  pub commit : Commits log busy.state busy.moment busy.made
  pub grown : new ≡ log_with log busy

pub kept_by : (log old new : Log) (busy : PendingTurn) (batch : Batch) → IsLegal log → log ≡ old → busy.state.sum ≡ sum_of old → batch ≡ batch_by busy.state.sum busy.moment busy.made
    → FollowsSum busy.state.sum batch → new ≡ log ++ batch ∷ [] → IsKept old new busy
kept_by log old new busy batch legal e same made follows kept = record { commit = commit; grown = kept ∙ (λ k. e k ++ (made ∙ commit.batch) k ∷ []) } where
  commit : Commits old busy.state busy.moment busy.made
  commit = commits old busy.state busy.moment busy.made (subst IsLegal e legal) same (subst (FollowsSum busy.state.sum) made follows)

-- while the server is in a turn, no server stands in its part
pub none_inside : (log : Log) (server : Option SumState) → option_map (of_log log) server ≡ None → server ≡ None
none_inside log None h = refl
none_inside log (Some s) h = absurd (true≢false (ap is_some h))

pub none_holds : (log new : Log) (base : Sum) (busy : PendingTurn) (server : Option SumState) → IsKept log new busy → IsBaseIn log base → server ≡ None → HoldsSum new base server
none_holds log new base busy server k based none = record {
  legal = subst IsLegal (sym k.grown) k.commit.legal;
  based = subst (λ l. IsBaseIn l base) (sym k.grown) (based_more log (batch_of log busy.moment busy.made ∷ []) base based);
  summed = subst (λ o. MatchOption o ⊤ (λ s. s.sum ≡ sum_of new)) (sym none) tt;
}

-- the server stopped after the commit
pub stops_is : (log new : Log) (base kept : Sum) (busy : PendingTurn) (server : Option SumState) (downs told : List Down) (i : Input) → IsKept log new busy → base ≡ kept → server ≡ None → downs ≡ told
    → viewed new base server downs ≡ turned ending.Stopped kept told (makes busy.made) (of_log log busy.state) busy.moment i
stops_is log new base kept busy server downs told i k b none d = λ x. viewed (k.grown x) (b x) (none x) (d x)

-- its batch is answered
pub goes_on_is : (log new : Log) (base kept : Sum) (busy : PendingTurn) (downs told : List Down) (i : Input) → IsKept log new busy → base ≡ kept → downs ≡ told
    → let now : ServerSideState = record { server = Some (of_log new (after_commit busy.state busy.moment busy.made)); base = base; history = new; downs = downs ++ answers_by busy.state.sum busy.made } in
    now ≡ turned ending.Answered kept told (makes busy.made) (of_log log busy.state) busy.moment i
goes_on_is log new base kept busy downs told i k b d =
    λ x. record { server = Some (of_log (k.grown x) (after_commit busy.state busy.moment busy.made)); base = b x; history = k.grown x; downs = d x ++ k.commit.answered x }

-- ---- what the server's part is served

-- a turn begins, of a server with the log
pub record Begun (w : ServerSideState) (log : Log) (base : Sum) (downs : List Down) (s : SumState) : Type 0 where
  pub whole : viewed log base (Some s) downs ≡ w
  pub legal : IsLegal log
  pub summed : s.sum ≡ sum_of log

pub begun : (w : ServerSideState) (log : Log) (base : Sum) (server : Option SumState) (downs : List Down) (s : SumState) → viewed log base server downs ≡ w → HoldsSum log base server → Some s ≡ server → Begun w log base downs s
begun w log base server downs s view holds is = record {
  whole = ap (λ o. viewed log base o downs) is ∙ view;
  legal = holds.legal;
  summed = subst (λ o. MatchOption o ⊤ (λ x. x.sum ≡ sum_of log)) (sym is) holds.summed;
}

module _ (w : ServerSideState) (log : Log) (base : Sum) (downs : List Down) (s : SumState) (b : Begun w log base downs s) (i : Input) (now : ℕ) where
  -- what it decides is what is served
  served_so : (m : ℕ) (e : Ending) (d : Decision) → turn_by s i now ≡ d → m ≡ moment_by s.sum now → turned e base downs d (of_log log s) m i ≡ served w i now e
  served_so m e d decided at =
      let by_turn = sym decided ∙ turn_is log s i now b.legal b.summed in
      let by_moment = at ∙ moment_is log s.sum now b.legal b.summed in
      (λ k. turned e base downs (by_turn k) (of_log log s) (by_moment k) i) ∙ ap (λ v. served v i now e) b.whole

  pub makes_so : (e : Ending) (busy : PendingTurn) → IsTurn s i now (turn_of.Busy busy) → turned e base downs (makes busy.made) (of_log log busy.state) busy.moment i ≡ served w i now e
  makes_so e busy t = ap (λ x. turned e base downs (makes busy.made) (of_log log x) busy.moment i) t.1 ∙ served_so busy.moment e (makes busy.made) t.0 t.2

  -- the server stopped after the commit
  pub stops_so : (busy : PendingTurn) (taken : Option SumState) → IsTurn s i now (turn_of.Busy busy) → taken ≡ None
      → let now_is : ServerSideState = record { server = option_map (of_log log) taken; base = base; history = log_with log busy; downs = downs } in
      now_is ≡ served w i now ending.Stopped
  stops_so busy taken t none =
      (λ k. record { server = option_map (of_log log) (none k); base = base; history = log_with log busy; downs = downs }) ∙ makes_so ending.Stopped busy t

  pub quiet_so : (e : Ending) (server : SumState) (outs : List Down) → IsTurn s i now (turn_of.Quiet server outs) → turned e base downs quiet (of_log log s) (moment_by s.sum now) i ≡ served w i now e
  quiet_so e server outs t = served_so (moment_by s.sum now) e quiet t.0 refl

  -- the server that was given back
  pub back_so : (server : SumState) → server ≡ s → viewed log base (Some server) downs ≡ w
  back_so server same = ap (λ x. viewed log base (Some x) downs) same ∙ b.whole

  pub refused_stops : (f : Refusal) (taken : Option SumState) → turn_by s i now ≡ refused f → taken ≡ None → viewed log base taken downs ≡ served w i now ending.Stopped
  refused_stops f taken h none = ap (λ o. viewed log base o downs) none ∙ served_so (moment_by s.sum now) ending.Stopped (refused f) h refl

  not_stopped : (e : Ending) (f : Refusal) (m : ℕ) → (e ≡ ending.Stopped → ⊥) → goes_on base downs (refused f) (of_log log s) m i ≡ turned e base downs (refused f) (of_log log s) m i
  not_stopped ending.Answered f m h = refl
  not_stopped ending.Stopped f m h = absurd (h refl)
  not_stopped ending.Refused f m h = refl

  pub refused_told : (e : Ending) (f : Refusal) (server : SumState) (session : Option SessionId) (code : Code) → (e ≡ ending.Stopped → ⊥) → turn_by s i now ≡ refused f → server ≡ s → session ≡ heard_from i → code ≡ code_of f
      → let now_is : ServerSideState = record { server = Some (of_log log server); base = base; history = log; downs = downs ++ fault_for session code } in
      now_is ≡ served w i now e
  refused_told e f server session code goes h same from by_code =
      (λ k. record { server = Some (of_log log (same k)); base = base; history = log; downs = downs ++ fault_for (from k) (by_code k) })
      ∙ not_stopped e f (moment_by s.sum now) goes
      ∙ served_so (moment_by s.sum now) e (refused f) h refl

-- ---- what readers say

pub open_told : (log : Log) (s : SumState) (client : ClientId) → IsLegal log → s.sum ≡ sum_of log
    → MatchOption (open_stamp_in client s.sum) (open_on (Some (of_log log s)) client ≡ []) (λ stamp. open_on (Some (of_log log s)) client ≡ session_with client stamp ∷ [])
open_told log s client legal same =
    subst (λ x. MatchOption (open_stamp_in client x) (open_on (Some (of_log log s)) client ≡ []) (λ stamp. open_on (Some (of_log log s)) client ≡ session_with client stamp ∷ [])) (sym same)
    ((readers_say log legal).stamp client)

-- of the server of its history, while it runs
pub open_found : (log : Log) (base : Sum) (server : Option SumState) (shown : Option ServerState) (s : SumState) (client : ClientId) (r : Option Stamp) → HoldsSum log base server → server ≡ Some s → option_map (of_log log) server ≡ shown
    → r ≡ open_stamp_in client s.sum → MatchOption r (open_on shown client ≡ []) (λ stamp. open_on shown client ≡ session_with client stamp ∷ [])
open_found log base server shown s client r h is v e =
    let same = subst (λ o. MatchOption o ⊤ (λ x. x.sum ≡ sum_of log)) is h.summed in
    subst (λ o. MatchOption r (open_on o client ≡ []) (λ stamp. open_on o client ≡ session_with client stamp ∷ [])) (sym (ap (option_map (of_log log)) is) ∙ v)
    (subst (λ x. MatchOption x (open_on (Some (of_log log s)) client ≡ []) (λ stamp. open_on (Some (of_log log s)) client ≡ session_with client stamp ∷ [])) (sym e) (open_told log s client h.legal same))

pub closed : (server : SumState) (s : ServerState) → HasLog server s → ((c : ClientId) → has_open_in c server.sum ≡ false) → (c : ClientId) → has_open c (entries s.log) ≡ false
closed server s h none c = sym ((readers_say s.log h.0).has_open c) ∙ ap (λ (x : SumState). has_open_in c x.sum) (sym h.1) ∙ none c

-- ---- a server that starts again

-- its part with the batches of the sessions that it ended
pub restarted_is : (w : ServerSideState) (t : ServerState) (server : SumState) (new : Log) → HasLog server t → t.log ≡ new
    → let now : ServerSideState = record w { server = Some (of_log new server); history = new } in
    now ≡ record w { server = Some t; history = t.log }
restarted_is w t server new h grown = λ k. record w { server = Some (record { log = sym grown k; heard = (h.1 k).heard }); history = sym grown k }

pub restarted_holds : (t : ServerState) (server : SumState) (old more new : Log) (base : Sum) → HasLog server t → t.log ≡ new → IsBaseIn old base → new ≡ old ++ more → HoldsSum new base (Some server)
restarted_holds t server old more new base h grown based is = record {
  legal = subst IsLegal grown h.0;
  based = subst (λ l. IsBaseIn l base) (sym is) (based_more old more base based);
  summed = ap (λ (x : SumState). x.sum) h.1 ∙ ap sum_of grown;
}

-- ---- a base that is kept

-- of the server of its history
pub kept_view : (w : ServerSideState) (log : Log) (base new : Sum) (server : Option SumState) (downs : List Down) (s : SumState) → viewed log base server downs ≡ w → HoldsSum log base server → server ≡ Some s → new ≡ s.sum
    → viewed log new server downs ≡ checkpointed w
kept_view w log base new server downs s view holds is same =
    let summed : s.sum ≡ sum_of log = subst (λ o. MatchOption o ⊤ (λ x. x.sum ≡ sum_of log)) is holds.summed in
    (λ i. viewed log ((same ∙ summed) i) (is i) downs)
    ∙ ap (λ o. checkpointed (viewed log base o downs)) (sym is)
    ∙ ap checkpointed view

pub kept_holds : (log : Log) (base new : Sum) (server : Option SumState) (s : SumState) → HoldsSum log base server → server ≡ Some s → new ≡ s.sum → HoldsSum log new server
kept_holds log base new server s holds is same =
    let summed : s.sum ≡ sum_of log = subst (λ o. MatchOption o ⊤ (λ x. x.sum ≡ sum_of log)) is holds.summed in
    record {
      legal = holds.legal;
      based = subst (IsBaseIn log) (sym (same ∙ summed)) (based_all log);
      summed = holds.summed;
    }

-- where no server runs
pub none_kept : (w : ServerSideState) (log : Log) (base : Sum) (server : Option SumState) (downs : List Down) → viewed log base server downs ≡ w → server ≡ None → viewed log base server downs ≡ checkpointed w
none_kept w log base server downs view none = ap (λ o. viewed log base o downs) none ∙ ap (λ o. checkpointed (viewed log base o downs)) (sym none) ∙ ap checkpointed view
