-- What is sent after a turn, and on which lines it was put.
use Rattle.std.proofs.Common.{refl, sym, ◌∙◌, ap, subst, ◌≡◌, ℕ, List, [], ◌++◌, Bool, true, false, not, ◌&&◌, ◌||◌, append-nil, Option, Some, None, inl, inr, unwrap_or, IfSome}
use Rattle.std.specs.List.{list_any}
use Rattle.pres_ids.specs.declared.id.SessionId.{SessionId}
use Rattle.pres_wire.specs.declared.up.Up.TheVariants as up
use Rattle.pres_wire.specs.declared.down.Down.{Down}
use Rattle.pres_log.specs.declared.entry.Batch.{Batch}
use Rattle.pres_log.specs.declared.entry.Entry.{Entry}
use Rattle.pres_server.specs.declared.input.Input.{Input}
use Rattle.pres_server.specs.declared.input.Input.TheVariants as input
use Rattle.pres_server.specs.Turns.{Decision, refused, quiet, makes}
use Rattle.pres_server.specs.Sums.{Sum, is_open_in, sum_with}
use Rattle.pres_server.specs.SumStates.{SumState}
use Rattle.pres_server.specs.SumAnswers.{answers_by}
use Rattle.pres_server.specs.SumTurns.{FollowsSum, turn_by, moment_by, batch_by, after_commit, after_hearing}
use Rattle.pres_server.specs.Histories.{IsSum, History, LeadsTo, with_batch}
use Rattle.pres_history.proofs.Histories.{history_holds}
use Rattle.pres_ring.specs.AcceptedMessages.{is_hello_of}
use Rattle.pres_ring.specs.Transcripts.{those_for, is_gone_for}
use Rattle.pres_ring.specs.HistoryTranscripts.{IsClosed, transcript_in, BeginsTranscriptIn}
use Rattle.pres_ring.proofs.HistoriesTell.{answers_extend, open_after, open_begins, answers_begin}
use Rattle.pres_ring.proofs.TurnsBy.{only_hello_opens}
use Rattle.pres_ring.specs.Lines.{SessionLine, Lines, line_at}
use Rattle.pres_ring.specs.Deliveries.{FitsTranscript, SentAfter, LeavesOrIsPut, LineAfter}
use Rattle.pres_keeper.specs.Engines.{Runs}
use Rattle.pres_keeper.specs.EngineTurns.{IsDone, IsTurnDone, history_made, history_turned}
use Rattle.pres_dispatch.specs.Dispatches.{is_hello, CarriesTranscript, CarryTranscripts}
use Rattle.pres_dispatch.proofs.Behind.{follows_by, leads_by}

no_hello : (s : SessionId) (i : Input) → is_hello i ≡ false → is_hello_of s i ≡ false
no_hello s (input.Up (up.Hello t)) h = absurd (cc h)
no_hello s (input.Up (up.Op t q n op)) h = refl
no_hello s (input.Up (up.Bye t q)) h = refl
no_hello s (input.Up (up.Left t q op)) h = refl
no_hello s (input.Up (up.Cancel t q p)) h = refl
no_hello s (input.Up (up.Beat t)) h = refl
no_hello s (input.Up (up.On t q p)) h = refl
no_hello s (input.Up (up.Off t q p)) h = refl
no_hello s (input.Lost t) h = refl
no_hello s (input.Slow t) h = refl
no_hello s (input.Restart c) h = refl
no_hello s input.Tick h = refl

-- ---- one line

some_same : {X : Type 0} (x y : X) → Some y ≡ Some x → y ≡ x
some_same x y k = ap (λ o. unwrap_or o x) k

sent_told : (s : SessionId) (old new : History) (ms : List Down) (before after : Option (List Down)) → transcript_in s new ≡ transcript_in s old ++ those_for s ms
    → IfSome before (λ sent. sent ≡ transcript_in s old) → SentAfter before (those_for s ms) after → IfSome after (λ sent. sent ≡ transcript_in s new)
sent_told s old new ms None None t h p = tt
sent_told s old new ms None (Some ys) t h p = absurd (cc p)
sent_told s old new ms (Some xs) None t h p = tt
sent_told s old new ms (Some xs) (Some ys) t h p = elim p [
  | inl q ↦ some_same (xs ++ those_for s ms) ys q ∙ ap (λ l. l ++ those_for s ms) h ∙ sym t
  | inr q ↦ absurd (cc q)
]

-- a line of a session that the answers don't open
pub line_told : (s : SessionId) (old new : History) (sum later : Sum) (ms : List Down) (before after : Option SessionLine) → transcript_in s new ≡ transcript_in s old ++ those_for s ms
    → is_open_in s later ≡ (is_open_in s sum && not (list_any (is_gone_for s) ms)) → CarriesTranscript old sum s before → LineAfter s ms before after → CarriesTranscript new later s after
line_told s old new sum later ms None None t o h p = o ∙ ap (λ b. b && not (list_any (is_gone_for s) ms)) h
line_told s old new sum later ms None (Some l) t o h p = absurd (cc p)
line_told s old new sum later ms (Some l) after t o h p = by (list_any (is_gone_for s) ms) refl p where
  by : (g : Bool) → list_any (is_gone_for s) ms ≡ g → LeavesOrIsPut g l (those_for s ms) after → CarriesTranscript new later s after
  by true k gone = subst (CarriesTranscript new later s) (sym gone) (o ∙ (λ i. h.0 i && not (k i)))
  by false k put = subst (CarriesTranscript new later s) (sym put.1) (o ∙ (λ i. h.0 i && not (k i)), sent_told s old new ms l.sent put.0.sent t h.1 put.3)

-- what a batch answers to the session of a line is sent to it
pub fits_made : (s : SessionId) (history : History) (sum : Sum) (b : Batch) (line : Option SessionLine) → IsClosed history → LeadsTo history sum → FollowsSum sum b → CarriesTranscript history sum s line
    → FitsTranscript s (answers_by sum b.entries) line
fits_made s history sum b None closed leads follows told = tt
fits_made s history sum b (Some l) closed leads follows told = by l.sent told.1 where
  by : (o : Option (List Down)) → IfSome o (λ sent. sent ≡ transcript_in s history) → IfSome o (λ sent. BeginsTranscriptIn s (sent ++ those_for s (answers_by sum b.entries)))
  by None k = tt
  by (Some xs) k = subst (λ ys. BeginsTranscriptIn s (ys ++ those_for s (answers_by sum b.entries))) (sym k) (answers_begin s history sum b closed leads follows told.0)

-- so it is where nothing is answered
fits_quiet : (s : SessionId) (history : History) (sum : Sum) (ms : List Down) (line : Option SessionLine) → IsClosed history → LeadsTo history sum → ms ≡ [] → CarriesTranscript history sum s line → FitsTranscript s ms line
fits_quiet s history sum ms None closed leads none told = tt
fits_quiet s history sum ms (Some l) closed leads none told = by l.sent told.1 where
  by : (o : Option (List Down)) → IfSome o (λ sent. sent ≡ transcript_in s history) → IfSome o (λ sent. BeginsTranscriptIn s (sent ++ those_for s ms))
  by None k = tt
  by (Some xs) k =
      let is : transcript_in s history ≡ xs ++ those_for s ms = sym k ∙ sym (append-nil xs) ∙ ap (λ m. xs ++ those_for s m) (sym none) in
      subst (BeginsTranscriptIn s) is (open_begins s history sum closed leads told.0)

-- ---- a turn

-- the history since a start leads to the server's sum, and what was put on the lines is what it sends
pub record Told (history : History) (lines : Lines) (s : SumState) : Type 0 where
  pub closed : IsClosed history
  pub leads : LeadsTo history s.sum
  pub carried : CarryTranscripts history s.sum lines

or_false : (x : Bool) → (x || false) ≡ x
or_false true = refl
or_false false = refl

and_true : (x : Bool) → x ≡ (x && true)
and_true true = refl
and_true false = refl

module _ (history : History) (s : SumState) (lines : Lines) (told : Told history lines s) (now : ℕ) (i : Input) (plain : is_hello i ≡ false) (new : Option SumState) (outs : List Down) (turned : IsTurnDone (Some s) i now new outs) where
  abbrev batch : List Entry → Batch
  batch es = batch_by s.sum (moment_by s.sum now) es

  summed : IsSum s.sum
  summed = history_holds history s.sum told.leads

  follows : (es : List Entry) → turn_by s i now ≡ makes es → FollowsSum s.sum (batch es)
  follows es k = follows_by s summed i now es k

  told_made : (t : SessionId) (es : List Entry) → turn_by s i now ≡ makes es → outs ≡ answers_by s.sum es → transcript_in t (with_batch history (batch es)) ≡ transcript_in t history ++ those_for t outs
  told_made t es k a = answers_extend t history s.sum (batch es) told.leads (follows es k) ∙ ap (λ ms. transcript_in t history ++ those_for t ms) (sym a)

  open_made : (t : SessionId) (es : List Entry) → turn_by s i now ≡ makes es → outs ≡ answers_by s.sum es
      → is_open_in t (sum_with s.sum (batch es)) ≡ (is_open_in t s.sum && not (list_any (is_gone_for t) outs))
  open_made t es k a =
      open_after t s.sum (batch es) summed (follows es k)
      ∙ (λ j. (is_open_in t s.sum && not (list_any (is_gone_for t) (sym a j))) || (only_hello_opens t s i now es k ∙ no_hello t i plain) j)
      ∙ or_false _

  nothing_told : (t : SessionId) → transcript_in t history ≡ transcript_in t history ++ []
  nothing_told t = sym (append-nil (transcript_in t history))

  pub with_told : (t : SessionId) → FitsTranscript t outs (line_at t lines)
  with_told t = by (turn_by s i now) refl turned where
    by : (d : Decision) → turn_by s i now ≡ d → IsDone d s (moment_by s.sum now) i new outs → FitsTranscript t outs (line_at t lines)
    by (refused f) k done = absurd done
    by quiet k done = fits_quiet t history s.sum outs (line_at t lines) told.closed told.leads done.1 (told.carried t)
    by (makes es) k done =
        subst (λ ms. FitsTranscript t ms (line_at t lines)) (sym done.1) (fits_made t history s.sum (batch es) (line_at t lines) told.closed told.leads (follows es k) (told.carried t))

  pub told_after : (after : Lines) → ((t : SessionId) → LineAfter t outs (line_at t lines) (line_at t after)) → Runs (Told (history_turned history (Some s) i now) after) new
  told_after after put = by (turn_by s i now) refl turned where
    by : (d : Decision) → turn_by s i now ≡ d → IsDone d s (moment_by s.sum now) i new outs → Runs (Told (history_made history s.sum (moment_by s.sum now) d) after) new
    by (refused f) k done = absurd done
    by quiet k done =
        let here : Told history after (after_hearing s (moment_by s.sum now) i) = record {
          closed = told.closed;
          leads = told.leads;
          carried = λ t.
              line_told t history history s.sum s.sum outs (line_at t lines) (line_at t after) (nothing_told t ∙ ap (λ ms. transcript_in t history ++ those_for t ms) (sym done.1))
              (and_true (is_open_in t s.sum) ∙ ap (λ ms. is_open_in t s.sum && not (list_any (is_gone_for t) ms)) (sym done.1)) (told.carried t) (put t);
        } in
        subst (Runs (Told history after)) (sym done.0) here
    by (makes es) k done =
        let later : History = with_batch history (batch es) in
        let here : Told later after (after_commit s (moment_by s.sum now) es) = record {
          closed = told.closed;
          leads = leads_by history s told.leads i now es k;
          carried = λ t.
              line_told t history later s.sum (sum_with s.sum (batch es)) outs (line_at t lines) (line_at t after) (told_made t es k done.1) (open_made t es k done.1) (told.carried t) (put t);
        } in
        subst (Runs (Told later after)) (sym done.0) here
