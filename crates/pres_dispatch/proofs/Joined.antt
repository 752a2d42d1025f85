-- A session that is opened: its Welcome is the last of the answers, and alone for it.
use Rattle.std.proofs.Common.{refl, sym, ◌∙◌, ap, subst, ◌≡◌, ◌≤◌, ◌+◌, ℕ, List, [], ◌∷◌, ◌++◌, length, Bool, true, false, not, ◌&&◌, ◌||◌, cond, append_assoc, append-nil, Option, Some, None, is_some, IfSome}
use Rattle.std.specs.List.{list_any}
use Rattle.std.proofs.lemmas.List.Folds.{list_any-append}
use Rattle.pres_ids.specs.declared.id.SessionId.{SessionId}
use Rattle.pres_ids.specs.Ids.{same_session}
use Rattle.pres_wire.specs.declared.up.Up.TheVariants as up
use Rattle.pres_wire.specs.declared.down.Down.{Down}
use Rattle.pres_wire.specs.Messages.{session_for}
use Rattle.pres_log.specs.declared.entry.Batch.{Batch}
use Rattle.pres_log.specs.declared.entry.Entry.{Entry}
use Rattle.pres_server.specs.declared.input.Input.TheVariants as input
use Rattle.pres_server.specs.Turns.{Decision, refused, quiet, makes}
use Rattle.pres_server.specs.Sums.{Sum, is_open_in, sum_with}
use Rattle.pres_server.specs.SumStates.{SumState}
use Rattle.pres_server.specs.SumAnswers.{answers_by}
use Rattle.pres_server.specs.SumTurns.{FollowsSum, turn_by, moment_by, batch_by, after_commit}
use Rattle.pres_server.specs.Histories.{IsSum, History, with_batch}
use Rattle.pres_server.proofs.Clients.{session_itself, session_same}
use Rattle.pres_history.specs.Sessions.{opens}
use Rattle.pres_history.proofs.Histories.{history_holds}
use Rattle.pres_ring.specs.Transcripts.{names, those_for, is_gone, is_gone_for, IsWelcome}
use Rattle.pres_ring.specs.HistoryTranscripts.{transcript_in, BeginsTranscriptIn}
use Rattle.pres_ring.specs.RingEnds.{FeedState, OutboxState}
use Rattle.pres_ring.specs.LawsByTheSum.{IsWelcomedIn}
use Rattle.pres_ring.proofs.ForSession.{those-append}
use Rattle.pres_ring.proofs.BeginsIn.{told_front}
use Rattle.pres_ring.proofs.HistoriesTell.{answers_extend, open_after}
use Rattle.pres_ring.proofs.TurnsBy.{only_hello_opens, hello_is_not_quiet}
use Rattle.pres_ring.proofs.WelcomedBy.{hello_is_welcomed}
use Rattle.pres_ring.specs.Lines.{SessionLine, Lines, line_at, fed, kept_or_blank, ChangesAt}
use Rattle.pres_ring.specs.Deliveries.{FitsTranscript, IsPut, LeavesOrIsPut, LineAfter, LineFits}
use Rattle.pres_keeper.specs.Engines.{Runs}
use Rattle.pres_keeper.specs.EngineTurns.{IsDone, IsTurnDone, history_made, history_turned}
use Rattle.pres_dispatch.specs.Dispatches.{DispatcherState, Histories, CarriesTranscript, CarryTranscripts, StandsBehind, SomeStands, LastIsFor, LinesJoined, IsJoined}
use Rattle.pres_dispatch.proofs.Behind.{follows_by, leads_by}
use Rattle.pres_dispatch.proofs.Answered.{Told, fits_made, line_told}
use Rattle.pres_dispatch.proofs.Standing.{told_by}

and_false : (x : Bool) → (x && false) ≡ false
and_false true = refl
and_false false = refl

or_true : (x : Bool) → (x || true) ≡ true
or_true true = refl
or_true false = refl

or_false : (x : Bool) → (x || false) ≡ x
or_false true = refl
or_false false = refl

-- no message for s tells it that it is gone
none_gone : (s : SessionId) (ms : List Down) → those_for s ms ≡ [] → list_any (is_gone_for s) ms ≡ false
none_gone s [] h = refl
none_gone s (m ∷ ms) h = by (names s (session_for m)) refl h (none_gone s ms) where
  by : (b : Bool) → names s (session_for m) ≡ b → cond b (m ∷ those_for s ms) (those_for s ms) ≡ [] → (those_for s ms ≡ [] → list_any (is_gone_for s) ms ≡ false)
      → ((is_gone m && names s (session_for m)) || list_any (is_gone_for s) ms) ≡ false
  by true k e later = absurd (cc e)
  by false k e later = (λ i. (is_gone m && k i) || later e i) ∙ or_false (is_gone m && false) ∙ and_false (is_gone m)

-- its line stays
pub stays : (s : SessionId) (ms : List Down) (line after : Option SessionLine) → those_for s ms ≡ [] → is_some line ≡ true → LineAfter s ms line after → is_some after ≡ true
stays s ms None after none has put = absurd (cc has)
stays s ms (Some l) after none has put =
    let kept : IsPut l (those_for s ms) after = subst (λ b. LeavesOrIsPut b l (those_for s ms) after) (none_gone s ms none) put in
    ap is_some kept.1

-- ---- the Welcome is for no other session

those_before : (t s : SessionId) (ms : List Down) (w : Down) → IsWelcome s w → same_session t s ≡ false → those_for t (ms ++ w ∷ []) ≡ those_for t ms
those_before t s ms w is other =
    those-append t ms (w ∷ [])
    ∙ ap (λ b. those_for t ms ++ cond b (w ∷ []) []) (ap (λ m. names t (session_for m)) is.2 ∙ other)
    ∙ append-nil (those_for t ms)

gone_before : (t s : SessionId) (ms : List Down) (w : Down) → IsWelcome s w → list_any (is_gone_for t) (ms ++ w ∷ []) ≡ list_any (is_gone_for t) ms
gone_before t s ms w is =
    list_any-append (is_gone_for t) ms (w ∷ [])
    ∙ ap (λ m. list_any (is_gone_for t) ms || (is_gone_for t m || false)) is.2
    ∙ or_false (list_any (is_gone_for t) ms)

pub put_before : (t s : SessionId) (ms : List Down) (w : Down) (line after : Option SessionLine) → IsWelcome s w → same_session t s ≡ false → LineAfter t ms line after → LineAfter t (ms ++ w ∷ []) line after
put_before t s ms w None after is other put = put
put_before t s ms w (Some l) after is other put =
    subst (λ b. LeavesOrIsPut b l (those_for t (ms ++ w ∷ [])) after) (sym (gone_before t s ms w is))
    (subst (λ xs. LeavesOrIsPut (list_any (is_gone_for t) ms) l xs after) (sym (those_before t s ms w is other)) put)

pub fits_before : (t s : SessionId) (ms : List Down) (w : Down) (line after : Option SessionLine) → IsWelcome s w → same_session t s ≡ false → LineFits t ms line after → LineFits t (ms ++ w ∷ []) line after
fits_before t s ms w line after is other fits =
    subst (λ xs. IfSome line (λ l. IfSome l.sent (λ sent. length sent + length xs ≤ 256 → IfSome after (λ new. new.sent ≡ Some (sent ++ xs))))) (sym (those_before t s ms w is other)) fits

-- ---- what is sent with further messages is sent without them

pub told_before : (s : SessionId) (ms : List Down) (w : Down) (line : Option SessionLine) → FitsTranscript s (ms ++ w ∷ []) line → FitsTranscript s ms line
told_before s ms w None h = tt
told_before s ms w (Some l) h = by l.sent h where
  by : (x : Option (List Down)) → IfSome x (λ sent. BeginsTranscriptIn s (sent ++ those_for s (ms ++ w ∷ []))) → IfSome x (λ sent. BeginsTranscriptIn s (sent ++ those_for s ms))
  by None k = tt
  by (Some xs) k =
      told_front s (xs ++ those_for s ms) (those_for s (w ∷ []))
      (subst (BeginsTranscriptIn s) (ap (λ l. xs ++ l) (those-append s ms (w ∷ [])) ∙ sym (append_assoc xs (those_for s ms) (those_for s (w ∷ [])))) k)

-- ---- the last of a list

same_head : {A : Type 0} (d x y : A) (xs ys : List A) → x ∷ xs ≡ y ∷ ys → x ≡ y
same_head d x y xs ys e = ap (λ l. head_or d l) e where
  head_or : {A : Type 0} → A → List A → A
  head_or d [] = d
  head_or d (z ∷ zs) = z

same_tail : {A : Type 0} (x y : A) (xs ys : List A) → x ∷ xs ≡ y ∷ ys → xs ≡ ys
same_tail x y xs ys e = ap tail_of e where
  tail_of : {A : Type 0} → List A → List A
  tail_of [] = []
  tail_of (z ∷ zs) = zs

not_empty : {A : Type 0} (xs : List A) (x : A) → [] ≡ xs ++ x ∷ [] → ⊥
not_empty [] x e = absurd (cc e)
not_empty (y ∷ xs) x e = absurd (cc e)

-- two lists with one more are the same in both parts
pub same_parts : (xs ys : List Down) (x y : Down) → xs ++ x ∷ [] ≡ ys ++ y ∷ [] → (xs ≡ ys) × (x ≡ y)
same_parts [] [] x y e = (refl, same_head x x y [] [] e)
same_parts [] (b ∷ ys) x y e = absurd (not_empty ys y (same_tail x b [] (ys ++ y ∷ []) e))
same_parts (a ∷ xs) [] x y e = absurd (not_empty xs x (sym (same_tail a y (xs ++ x ∷ []) [] e)))
same_parts (a ∷ xs) (b ∷ ys) x y e =
    let rest = same_parts xs ys x y (same_tail a b (xs ++ x ∷ []) (ys ++ y ∷ []) e) in
    ((λ i. same_head a a b (xs ++ x ∷ []) (ys ++ y ∷ []) e i ∷ rest.0 i), rest.1)

-- ---- a Hello

module _ (history : History) (state : SumState) (lines : Lines) (told : Told history lines state) (s : SessionId) (now : ℕ) (es : List Entry) (made_now : turn_by state (input.Up (up.Hello s)) now ≡ makes es) where
  abbrev made_batch : Batch
  made_batch = batch_by state.sum (moment_by state.sum now) es

  abbrev later : History
  later = with_batch history made_batch

  abbrev sum_after : Sum
  sum_after = sum_with state.sum made_batch

  abbrev said : List Down
  said = answers_by state.sum es

  summed : IsSum state.sum
  summed = history_holds history state.sum told.leads

  follows : FollowsSum state.sum made_batch
  follows = follows_by state summed (input.Up (up.Hello s)) now es made_now

  pub is_welcomed : IsWelcomedIn s history state.sum made_batch
  is_welcomed = hello_is_welcomed history state s now es told.closed told.leads made_now

  opened_now : (t : SessionId) → list_any (opens t) es ≡ same_session t s
  opened_now t = only_hello_opens t state (input.Up (up.Hello s)) now es made_now

  pub last_is_for : LastIsFor s said
  last_is_for =
      let w = is_welcomed in
      record { others = w.others; last = w.last; parted = w.answered; welcome = w.welcome; silent = w.silent; told = w.begins }

  told_other : (t : SessionId) → transcript_in t later ≡ transcript_in t history ++ those_for t said
  told_other t = answers_extend t history state.sum made_batch told.leads follows

  -- no line was there for s, and there is a place for it now
  pub told_with_place : (placed : Lines) → ChangesAt s kept_or_blank lines placed → (t : SessionId) → FitsTranscript t said (line_at t placed)
  told_with_place placed change t = by (same_session t s) refl (change t) where
    by : (b : Bool) → same_session t s ≡ b → line_at t placed ≡ cond b (kept_or_blank (line_at t lines)) (line_at t lines) → FitsTranscript t said (line_at t placed)
    by true k e = subst (FitsTranscript t said) (sym e) (own (line_at t lines) (told.carried t)) where
      own : (line : Option SessionLine) → CarriesTranscript history state.sum t line → FitsTranscript t said (kept_or_blank line)
      own None h = tt
      own (Some l) h = absurd (cc (h.0, ap (λ u. is_open_in u state.sum) (session_same t s k), is_welcomed.closed))
    by false k e = subst (FitsTranscript t said) (sym e) (fits_made t history state.sum made_batch (line_at t lines) told.closed told.leads follows (told.carried t))

  open_now : (t : SessionId) → is_open_in t sum_after ≡ ((is_open_in t state.sum && not (list_any (is_gone_for t) said)) || same_session t s)
  open_now t = open_after t state.sum made_batch summed follows ∙ ap (λ b. (is_open_in t state.sum && not (list_any (is_gone_for t) said)) || b) (opened_now t)

  -- after the delivery, and with its own line, each line holds a transcript
  pub told_when_joined : (placed after : Lines) (end : OutboxState) → ChangesAt s kept_or_blank lines placed → LinesJoined s said placed after end → Told later after (after_commit state (moment_by state.sum now) es)
  told_when_joined placed after end change joined = record { closed = told.closed; leads = leads_by history state told.leads (input.Up (up.Hello s)) now es made_now; carried = carried } where
    same : joined.last ≡ is_welcomed.last
    same = (same_parts joined.earlier is_welcomed.others joined.last is_welcomed.last (sym joined.parted ∙ is_welcomed.answered)).1

    carried : CarryTranscripts later sum_after after
    carried t = by (same_session t s) refl (change t) where
      by : (b : Bool) → same_session t s ≡ b → line_at t placed ≡ cond b (kept_or_blank (line_at t lines)) (line_at t lines) → CarriesTranscript later sum_after t (line_at t after)
      by true k e =
          let is : t ≡ s = session_same t s k in
          subst (λ u. CarriesTranscript later sum_after u (line_at u after)) (sym is)
          (subst (CarriesTranscript later sum_after s) (sym joined.own)
          (open_now s ∙ ap (λ b. (is_open_in s state.sum && not (list_any (is_gone_for s) said)) || b) (session_itself s) ∙ or_true _, ap (λ m. m ∷ []) same ∙ sym is_welcomed.told_now))
      by false k e =
          line_told t history later state.sum sum_after said (line_at t lines) (line_at t after) (told_other t)
          (open_now t ∙ ap (λ b. (is_open_in t state.sum && not (list_any (is_gone_for t) said)) || b) k ∙ or_false _)
          (told.carried t) (subst (λ line. LineAfter t said line (line_at t after)) e (joined.others t k))

-- ---- the line that the session gets

pub own_line : (s : SessionId) (feed : FeedState) (m : Down) (mid after : Lines) → feed ≡ record { session = s; sent = Some (m ∷ []) } → ChangesAt feed.session (λ line. Some (fed feed)) mid after
    → line_at s after ≡ Some (record { sent = Some (m ∷ []); mark = None })
own_line s feed m mid after is change =
    change s
    ∙ (λ i. cond (same_session s (is i).session) (Some (fed (is i))) (line_at s mid))
    ∙ ap (λ b. cond b (Some (record { sent = Some (m ∷ []); mark = None })) (line_at s mid)) (session_itself s)

pub other_line : (s : SessionId) (feed : FeedState) (m : Down) (mid after : Lines) → feed ≡ record { session = s; sent = Some (m ∷ []) } → ChangesAt feed.session (λ line. Some (fed feed)) mid after
    → (t : SessionId) → same_session t s ≡ false → line_at t after ≡ line_at t mid
other_line s feed m mid after is change t k =
    change t
    ∙ (λ i. cond (same_session t (is i).session) (Some (fed feed)) (line_at t mid))
    ∙ ap (λ b. cond b (Some (fed feed)) (line_at t mid)) k

-- ---- over a server that may be gone

-- the Hello is done, by these entries
record IsMade (old new : Option SumState) (s : SessionId) (now : ℕ) (outs : List Down) : Type 0 where
  state : SumState
  es : List Entry
  ran : old ≡ Some state
  turned : turn_by state (input.Up (up.Hello s)) now ≡ makes es
  runs : new ≡ Some (after_commit state (moment_by state.sum now) es)
  answered : outs ≡ answers_by state.sum es

-- some history since a start leads to the sum, and the lines were put what it sends
abbrev SomeTold : Lines → SumState → Type 0
SomeTold lines state = (history : History) × Told history lines state

some_told : {A : Type 0} (works : A → Type 0) (keeps : A → History → Type 0) (held : DispatcherState A) (state : SumState) → held.run.server ≡ Some state → SomeStands works keeps held → SomeTold held.lines state
some_told works keeps held state ran stands =
    let h = subst (Runs (λ st. (histories : Histories) × StandsBehind works keeps held st histories)) ran stands in
    (h.0.since_start, told_by works keeps held state h.0 h.1)

module _ {A : Type 0} (works : A → Type 0) (keeps : A → History → Type 0) (held : DispatcherState A) (stands : SomeStands works keeps held) (new : Option SumState) (s : SessionId) (now : ℕ) (outs : List Down)
    (turned : IsTurnDone held.run.server (input.Up (up.Hello s)) now new outs) where
  made_here : IsMade held.run.server new s now outs
  made_here = by held.run.server turned where
    by : (o : Option SumState) → IsTurnDone o (input.Up (up.Hello s)) now new outs → IsMade o new s now outs
    by None turned = absurd turned
    by (Some state) turned = on (turn_by state (input.Up (up.Hello s)) now) refl turned where
      on : (d : Decision) → turn_by state (input.Up (up.Hello s)) now ≡ d → IsDone d state (moment_by state.sum now) (input.Up (up.Hello s)) new outs → IsMade (Some state) new s now outs
      on (refused f) k done = absurd done
      on quiet k done = absurd (hello_is_not_quiet state s now k)
      on (makes es) k done = record { state = state; es = es; ran = refl; turned = k; runs = done.0; answered = done.1 }

  told_here : SomeTold held.lines made_here.state
  told_here = some_told works keeps held made_here.state made_here.ran stands

  pub last_at : (opening : SessionId) → opening ≡ s → LastIsFor opening outs
  last_at opening is =
      subst (λ u. LastIsFor u outs) (sym is)
      (subst (LastIsFor s) (sym made_here.answered) (last_is_for told_here.0 made_here.state held.lines told_here.1 s now made_here.es made_here.turned))

  module _ (placed : Lines) (change : ChangesAt s kept_or_blank held.lines placed) where
    pub told_at : (t : SessionId) → FitsTranscript t outs (line_at t placed)
    told_at t = subst (λ ms. FitsTranscript t ms (line_at t placed)) (sym made_here.answered) (told_with_place told_here.0 made_here.state held.lines told_here.1 s now made_here.es made_here.turned placed change t)

    others_here : (t : SessionId) → same_session t s ≡ false → line_at t placed ≡ line_at t held.lines
    others_here t k = change t ∙ ap (λ b. cond b (kept_or_blank (line_at t held.lines)) (line_at t held.lines)) k

    -- the lines that the joining leaves
    joined_here : (opening : SessionId) → opening ≡ s → (after : Lines) (end : OutboxState) → LinesJoined opening outs placed after end → LinesJoined s (answers_by made_here.state.sum made_here.es) placed after end
    joined_here opening is after end joined = subst (λ ms. LinesJoined s ms placed after end) made_here.answered (subst (λ u. LinesJoined u outs placed after end) is joined)

    -- if histories that stand explain them, so do those with the batch of the Hello
    pub kept_at : (histories : Histories) (opening : SessionId) → opening ≡ s → (after : Lines) (end : OutboxState) → LinesJoined opening outs placed after end
        → Runs (λ st. StandsBehind works keeps held st histories → Runs (Told (history_turned histories.since_start held.run.server (input.Up (up.Hello s)) now) after) new) held.run.server
    kept_at histories opening is after end joined =
        subst (λ o. Runs (λ st. StandsBehind works keeps held st histories → Runs (Told (history_turned histories.since_start o (input.Up (up.Hello s)) now) after) new) o) (sym made_here.ran)
        (λ b. subst (Runs (Told (history_turned histories.since_start (Some made_here.state) (input.Up (up.Hello s)) now) after)) (sym made_here.runs)
        (subst (λ d. Told (history_made histories.since_start made_here.state.sum (moment_by made_here.state.sum now) d) after (after_commit made_here.state (moment_by made_here.state.sum now) made_here.es)) (sym made_here.turned)
        (told_when_joined histories.since_start made_here.state held.lines (told_by works keeps held made_here.state histories b) s now made_here.es made_here.turned placed after end change (joined_here opening is after end joined))))

    pub joined_at : (opening : SessionId) → opening ≡ s → (after : Lines) (end : OutboxState) → LinesJoined opening outs placed after end → IsJoined s now held.run.server new held.lines after end
    joined_at opening is after end joined =
        let here = joined_here opening is after end joined in
        record {
          state = made_here.state;
          made = made_here.es;
          ran = made_here.ran;
          turned = made_here.turned;
          runs = made_here.runs;
          lines = record {
            earlier = here.earlier;
            last = here.last;
            parted = here.parted;
            own = here.own;
            others = λ t k. subst (λ line. LineAfter t (answers_by made_here.state.sum made_here.es) line (line_at t after)) (others_here t k) (here.others t k);
            fits = λ t k. subst (λ line. LineFits t (answers_by made_here.state.sum made_here.es) line (line_at t after)) (others_here t k) (here.fits t k);
            outbox = here.outbox;
          };
        }

-- ---- a Hello that isn't done

none_there : (line : Option SessionLine) → not (is_some line) ≡ true → line ≡ None
none_there None h = refl
none_there (Some l) h = absurd (cc h)

some_there : (line : Option SessionLine) → not (is_some line) ≡ false → kept_or_blank line ≡ line
some_there None h = absurd (cc h)
some_there (Some l) h = refl

-- the new place goes again
pub unplaced : (s : SessionId) (lines placed after : Lines) → not (is_some (line_at s lines)) ≡ true → ChangesAt s kept_or_blank lines placed → ChangesAt s (λ line. None) placed after → (t : SessionId) → line_at t after ≡ line_at t lines
unplaced s lines placed after is_new change back t = by (same_session t s) refl where
  by : (b : Bool) → same_session t s ≡ b → line_at t after ≡ line_at t lines
  by true k = back t ∙ ap (λ b. cond b None (line_at t placed)) k ∙ sym (none_there (line_at t lines) (ap (λ u. not (is_some (line_at u lines))) (session_same t s k) ∙ is_new))
  by false k = back t ∙ ap (λ b. cond b None (line_at t placed)) k ∙ change t ∙ ap (λ b. cond b (kept_or_blank (line_at t lines)) (line_at t lines)) k

-- and an old one was there before
pub placed_before : (s : SessionId) (lines placed : Lines) → not (is_some (line_at s lines)) ≡ false → ChangesAt s kept_or_blank lines placed → (t : SessionId) → line_at t placed ≡ line_at t lines
placed_before s lines placed is_old change t = by (same_session t s) refl where
  by : (b : Bool) → same_session t s ≡ b → line_at t placed ≡ line_at t lines
  by true k = change t ∙ ap (λ b. cond b (kept_or_blank (line_at t lines)) (line_at t lines)) k ∙ some_there (line_at t lines) (ap (λ u. not (is_some (line_at u lines))) (session_same t s k) ∙ is_old)
  by false k = change t ∙ ap (λ b. cond b (kept_or_blank (line_at t lines)) (line_at t lines)) k
