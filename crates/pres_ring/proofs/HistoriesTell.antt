-- What a history tells a session, from its opening to its end.
use Rattle.std.proofs.Common.{refl, sym, ◌∙◌, ap, subst, ◌≡◌, ℕ, ◌+◌, List, [], ◌∷◌, ◌++◌, length, Bool, true, false, not, ◌||◌, ◌&&◌, true≢false, append_assoc, append-nil, ◌⊎◌, inl, inr, Some}
use Rattle.std.specs.List.{list_any}
use Rattle.std.proofs.lemmas.List.Folds.{list_any-append}
use Rattle.pres_ids.specs.declared.id.SessionId.{SessionId}
use Rattle.pres_wire.specs.declared.down.Down.{Down}
use Rattle.pres_log.specs.declared.entry.Batch.{Batch}
use Rattle.pres_log.specs.declared.entry.Entry.{Entry}
use Rattle.pres_log.specs.declared.entry.Entry.TheVariants as entry
use Rattle.pres_log.specs.Logs.{Log, entries}
use Rattle.pres_log.proofs.Entries.{entries-push}
use Rattle.pres_server.specs.InternalSums.{MayEnter, MayEnterAll}
use Rattle.pres_server.specs.Sums.{Sum, part_in, is_open_in, sent_by, sum_after, sum_after_all, sum_with, sum_from}
use Rattle.pres_server.specs.SumAnswers.{answers_to_by, answers_by}
use Rattle.pres_server.specs.SumTurns.{FollowAll}
use Rattle.pres_server.specs.Histories.{Keeps, IsSum, History, LeadsTo, with_batch, answers_from, with_batches}
use Rattle.pres_server.proofs.KeptSums.{kept_after, enters, sum_holds}
use Rattle.pres_history.specs.Sessions.{opens, ends}
use Rattle.pres_history.proofs.Histories.{history_holds, history_grows}
use Rattle.pres_ring.specs.Transcripts.{those_for, is_gone, StartsWithWelcome}
use Rattle.pres_ring.specs.HistoryTranscripts.{IsClosed, was_opened_in, transcript_in}
use Rattle.pres_ring.specs.TakenMessages.{AreNumbered}
use Rattle.pres_ring.specs.LawsByTheSum.{AnswersExtendTranscriptsIn, OpenBegins, AnswersBegin, OthersAreSilentIn, TranscriptsBegin, GoneIsLastIn, GoneTellsIn, OpenAfterIn, OpenWasOpened, OpenedOnce}
use Rattle.pres_ring.proofs.ForSession.{those-append}
use Rattle.pres_ring.proofs.GoneLast.{gone_prefix, has_gone_first}
use Rattle.pres_ring.proofs.OpenSteps.{IsPast, open_entry, closed_entry, ends_opens, opening_is, past_open, past_unopened, past_entry, open_batch}
use Rattle.pres_ring.proofs.SentSteps.{welcome_by, opening_told, entry_silent, entry_tells, gone_for, end_told, all_silent, all_tell}
use Rattle.pres_ring.proofs.Numbers.{AreSent, after_first, entry_numbers, numbered_on, counted_on, none_sent}

-- ---- one batch

pub answers_extend : (s : SessionId) (h : History) (sum : Sum) (b : Batch) → AnswersExtendTranscriptsIn s h sum b
answers_extend s h sum b l f = ap (those_for s) (history_grows h sum b l f).answered ∙ those-append s (answers_from h.base h.log) (answers_by sum b.entries)

pub others_are_silent : (s : SessionId) (sum : Sum) (b : Batch) → OthersAreSilentIn s sum b
others_are_silent s sum b k f o n = all_silent s b.entries sum b.moment k.keeps (enters sum b.moment b.entries f.allowed) o n

pub gone_tells : (s : SessionId) (sum : Sum) (b : Batch) → GoneTellsIn s sum b
gone_tells s sum b k f = all_tell s b.entries sum b.moment k.keeps (enters sum b.moment b.entries f.allowed)

pub open_after : (s : SessionId) (sum : Sum) (b : Batch) → OpenAfterIn s sum b
open_after s sum b k f =
    open_batch b.entries sum b.moment k.keeps f.allowed s
    ∙ ap (λ g. (is_open_in s sum && not g) || list_any (opens s) b.entries) (sym (gone_tells s sum b k f))

-- ---- what was told so far

-- it wasn't opened, and was told nothing
record IsUntold (s : SessionId) (sum : Sum) (ms : List Down) : Type 0 where
  closed : is_open_in s sum ≡ false
  none : ms ≡ []

-- it is open, and was told its Welcome and more
record IsBeingTold (s : SessionId) (sum : Sum) (ms : List Down) : Type 0 where
  starts : StartsWithWelcome s ms
  going : list_any is_gone ms ≡ false
  opened : is_open_in s sum ≡ true
  numbered : AreNumbered 1 (after_first ms)
  sent : sent_by s.client sum.sessions ≡ Some (length (after_first ms))

-- it has ended, was told so last, and isn't opened again
record IsTold (s : SessionId) (sum : Sum) (ms : List Down) : Type 0 where
  starts : StartsWithWelcome s ms
  front : List Down
  last : Down
  parted : ms ≡ front ++ last ∷ []
  going : list_any is_gone front ≡ false
  closed : is_open_in s sum ≡ false
  past : IsPast s sum
  numbered : AreNumbered 1 (after_first ms)

-- whether it was opened so far, and what it was told
abbrev Tells : Bool → SessionId → Sum → List Down → Type 0
Tells false s sum ms = IsUntold s sum ms
Tells true s sum ms = IsBeingTold s sum ms ⊎ IsTold s sum ms

starts_more : (s : SessionId) (ms more : List Down) → StartsWithWelcome s ms → StartsWithWelcome s (ms ++ more)
starts_more s [] more h = absurd h
starts_more s (m ∷ ms) more h = h

none_in_pair : (xs ys : List Down) → list_any is_gone xs ≡ false → list_any is_gone ys ≡ false → list_any is_gone (xs ++ ys) ≡ false
none_in_pair xs ys x y = list_any-append is_gone xs ys ∙ (λ i. x i || y i)

-- ---- one entry more

module _ (s : SessionId) (sum : Sum) (m : ℕ) (e : Entry) (k : Keeps sum) (f : MayEnter sum m e) where
  abbrev told : List Down
  told = those_for s (answers_to_by sum e)

  abbrev after : Sum
  after = sum_after e sum

  open_by : (a b c : Bool) → is_open_in s sum ≡ a → ends s e ≡ b → opens s e ≡ c → is_open_in s after ≡ ((a && not b) || c)
  open_by a b c h i j = open_entry sum m e k f s ∙ (λ x. (h x && not (i x)) || j x)

  -- one that was told nothing
  untold_entry : (ms : List Down) → IsUntold s sum ms → (b : Bool) → opens s e ≡ b → Tells b s after (ms ++ told)
  untold_entry ms u false n = record { closed = closed_entry sum m e k f s u.closed n; none = (λ i. u.none i ++ entry_silent s sum m e k f u.closed n i) }
  untold_entry ms u true n =
      let is : e ≡ entry.Open s = opening_is s e n in
      let all : ms ++ told ≡ welcome_by s sum ∷ [] = (λ i. u.none i ++ those_for s (answers_to_by sum (is i))) ∙ opening_told s sum k u.closed in
      let opened : is_open_in s after ≡ true = open_by false false true u.closed (ap (ends s) is) n in
      subst (λ l. IsBeingTold s after l ⊎ IsTold s after l) (sym all) (inl (record { starts = (sum.number + 1, length (part_in sum s.client).rows, refl); going = refl; opened = opened; numbered = tt; sent = ap (λ (x : Entry). sent_by s.client (sum_after x sum).sessions) is ∙ none_sent s sum }))

  -- what one that is open is sent is numbered on
  counted : (ms : List Down) → IsBeingTold s sum ms → AreSent s (length (after_first ms)) told after
  counted ms u = entry_numbers s sum m e k f u.opened (past_unopened sum m e f s (past_open sum s u.opened)) (length (after_first ms)) u.sent

  -- one that is open
  open_told : (ms : List Down) → IsBeingTold s sum ms → (b : Bool) → ends s e ≡ b → IsBeingTold s after (ms ++ told) ⊎ IsTold s after (ms ++ told)
  open_told ms u false n =
      let opened : is_open_in s after ≡ true = open_by true false (opens s e) u.opened n refl in
      let counts = counted ms u in
      inl (record {
        starts = starts_more s ms told u.starts;
        going = none_in_pair ms told u.going (gone_for s (answers_to_by sum e) ∙ entry_tells s sum m e k f ∙ n);
        opened = opened;
        numbered = numbered_on s ms told u.starts u.numbered counts.0;
        sent = counts.1 opened ∙ ap Some (counted_on s ms told u.starts);
      })
  open_told ms u true n =
      let end = end_told s sum m e k f n in
      inr (record {
        starts = starts_more s ms told u.starts;
        front = ms ++ end.front;
        last = end.last;
        parted = ap (λ l. ms ++ l) end.parted ∙ sym (append_assoc ms end.front (end.last ∷ []));
        going = none_in_pair ms end.front u.going end.going;
        closed = open_by true true false u.opened n (ends_opens s e n);
        past = past_entry sum m e k f s (past_open sum s u.opened);
        numbered = numbered_on s ms told u.starts u.numbered (counted ms u).0;
      })

  -- one that has ended
  ended_told : (ms : List Down) → IsTold s sum ms → IsTold s after (ms ++ told)
  ended_told ms u =
      let n = past_unopened sum m e f s u.past in
      subst (IsTold s after) (sym (ap (λ l. ms ++ l) (entry_silent s sum m e k f u.closed n) ∙ append-nil ms)) (record {
        starts = u.starts;
        front = u.front;
        last = u.last;
        parted = u.parted;
        going = u.going;
        closed = closed_entry sum m e k f s u.closed n;
        past = past_entry sum m e k f s u.past;
        numbered = u.numbered;
      })

  told_entry : (b : Bool) (ms : List Down) → Tells b s sum ms → Tells (b || opens s e) s after (ms ++ told)
  told_entry false ms t = untold_entry ms t (opens s e) refl
  told_entry true ms (inl t) = open_told ms t (ends s e) refl
  told_entry true ms (inr t) = inr (ended_told ms t)

-- ---- several, and a whole history

or_assoc : (a b c : Bool) → ((a || b) || c) ≡ (a || (b || c))
or_assoc true b c = refl
or_assoc false b c = refl

or_none : (a : Bool) → a ≡ (a || false)
or_none true = refl
or_none false = refl

-- what is said of both is said of what they are equal to
re_told : (s : SessionId) (sum : Sum) (a b : Bool) (ms ns : List Down) → a ≡ b → ms ≡ ns → Tells a s sum ms → Tells b s sum ns
re_told s sum a b ms ns p q t = subst (λ (x : Bool × List Down). Tells x.0 s sum x.1) (λ i. (p i, q i)) t

told_all : (s : SessionId) (xs : List Entry) (sum : Sum) (m : ℕ) (b : Bool) (ms : List Down) → Keeps sum → MayEnterAll sum m xs → Tells b s sum ms → Tells (b || list_any (opens s) xs) s (sum_after_all xs sum) (ms ++ those_for s (answers_by sum xs))
told_all s [] sum m b ms k f t = re_told s sum b (b || false) ms (ms ++ []) (or_none b) (sym (append-nil ms)) t
told_all s (e ∷ xs) sum m b ms k f t =
    let first = those_for s (answers_to_by sum e) in
    let rest = those_for s (answers_by (sum_after e sum) xs) in
    re_told s (sum_after_all xs (sum_after e sum)) ((b || opens s e) || list_any (opens s) xs) (b || (opens s e || list_any (opens s) xs)) ((ms ++ first) ++ rest) (ms ++ those_for s (answers_by sum (e ∷ xs)))
    (or_assoc b (opens s e) (list_any (opens s) xs))
    (append_assoc ms first rest ∙ ap (λ l. ms ++ l) (sym (those-append s (answers_to_by sum e) (answers_by (sum_after e sum) xs))))
    (told_all s xs (sum_after e sum) m (b || opens s e) (ms ++ first) (kept_after sum m e k f.0) f.1 (told_entry s sum m e k f.0 b ms t))

-- the count of batches and the moment make no difference
with_told : (s : SessionId) (sum : Sum) (batch : Batch) (b : Bool) (ms : List Down) → Tells b s (sum_after_all batch.entries sum) ms → Tells b s (sum_with sum batch) ms
with_told s sum batch false ms t = record { closed = t.closed; none = t.none }
with_told s sum batch true ms (inl t) = inl (record { starts = t.starts; going = t.going; opened = t.opened; numbered = t.numbered; sent = t.sent })
with_told s sum batch true ms (inr t) = inr (record { starts = t.starts; front = t.front; last = t.last; parted = t.parted; going = t.going; closed = t.closed; past = t.past; numbered = t.numbered })

told_from : (s : SessionId) (log : Log) (sum : Sum) (b : Bool) (ms : List Down) → IsSum sum → FollowAll sum log → Tells b s sum ms → Tells (b || list_any (opens s) (entries log)) s (sum_from sum log) (ms ++ those_for s (answers_from sum log))
told_from s [] sum b ms k f t = re_told s sum b (b || false) ms (ms ++ []) (or_none b) (sym (append-nil ms)) t
told_from s (batch ∷ log) sum b ms k f t =
    let first = those_for s (answers_by sum batch.entries) in
    let rest = those_for s (answers_from (sum_with sum batch) log) in
    let opened = list_any (opens s) batch.entries in
    let now = with_told s sum batch (b || opened) (ms ++ first) (told_all s batch.entries sum batch.moment b ms k.keeps (enters sum batch.moment batch.entries f.0.allowed) t) in
    re_told s (sum_from (sum_with sum batch) log) ((b || opened) || list_any (opens s) (entries log)) (b || list_any (opens s) (entries (batch ∷ log))) ((ms ++ first) ++ rest) (ms ++ those_for s (answers_from sum (batch ∷ log)))
    (or_assoc b opened (list_any (opens s) (entries log)) ∙ ap (λ x. b || x) (sym (list_any-append (opens s) batch.entries (entries log))))
    (append_assoc ms first rest ∙ ap (λ l. ms ++ l) (sym (those-append s (answers_by sum batch.entries) (answers_from (sum_with sum batch) log))))
    (told_from s log (sum_with sum batch) (b || opened) (ms ++ first) (sum_holds sum batch k f.0) f.1 now)

history_tells : (s : SessionId) (h : History) (sum : Sum) → is_open_in s h.base ≡ false → LeadsTo h sum → Tells (was_opened_in s h) s sum (transcript_in s h)
history_tells s h sum closed l = subst (λ x. Tells (was_opened_in s h) s x (transcript_in s h)) l.there (told_from s h.log h.base false [] l.base l.legal (record { closed = closed; none = refl }))

-- ---- what follows from it

pub open_was_opened : (s : SessionId) (h : History) (sum : Sum) → OpenWasOpened s h sum
open_was_opened s h sum closed l o = by (was_opened_in s h) (history_tells s h sum (closed s) l) where
  by : (b : Bool) → Tells b s sum (transcript_in s h) → b ≡ true
  by true t = refl
  by false t = absurd (true≢false (sym o ∙ t.closed))

-- what was opened before a batch or by it was opened since the base
pub opened_with : (s : SessionId) (h : History) (b : Batch) → was_opened_in s (with_batch h b) ≡ (was_opened_in s h || list_any (opens s) b.entries)
opened_with s h b = ap (list_any (opens s)) (entries-push h.log b) ∙ list_any-append (opens s) (entries h.log) b.entries

pub open_begins : (s : SessionId) (h : History) (sum : Sum) → OpenBegins s h sum
open_begins s h sum closed l o = record { history = h; sum = sum; closed = closed; leads = l; opened = open_was_opened s h sum closed l o; within = ([], append-nil (transcript_in s h)) }

pub answers_begin : (s : SessionId) (h : History) (sum : Sum) (b : Batch) → AnswersBegin s h sum b
answers_begin s h sum b closed l f o = record {
  history = with_batch h b;
  sum = sum_with sum b;
  closed = closed;
  leads = (history_grows h sum b l f).leads;
  opened = opened_with s h b ∙ ap (λ x. x || list_any (opens s) b.entries) (open_was_opened s h sum closed l o);
  within = ([], append-nil (transcript_in s h ++ those_for s (answers_by sum b.entries)) ∙ sym (answers_extend s h sum b l f));
}

starts_by : (s : SessionId) (sum : Sum) (ms : List Down) → Tells true s sum ms → StartsWithWelcome s ms
starts_by s sum ms (inl t) = t.starts
starts_by s sum ms (inr t) = t.starts

pub transcripts_begin : (s : SessionId) (h : History) (sum : Sum) → TranscriptsBegin s h sum
transcripts_begin s h sum closed l = record {
  opened = λ o. starts_by s sum (transcript_in s h) (subst (λ b. Tells b s sum (transcript_in s h)) o tells);
  unopened = λ o. (subst (λ b. Tells b s sum (transcript_in s h)) o tells).none;
} where
  tells : Tells (was_opened_in s h) s sum (transcript_in s h)
  tells = history_tells s h sum (closed s) l

pub transcript_numbered : (s : SessionId) (h : History) (sum : Sum) → IsClosed h → LeadsTo h sum → AreNumbered 1 (after_first (transcript_in s h))
transcript_numbered s h sum closed l = by (was_opened_in s h) (history_tells s h sum (closed s) l) where
  by : (b : Bool) → Tells b s sum (transcript_in s h) → AreNumbered 1 (after_first (transcript_in s h))
  by false t = subst (λ ms. AreNumbered 1 (after_first ms)) (sym t.none) tt
  by true (inl t) = t.numbered
  by true (inr t) = t.numbered

-- a session that may be opened wasn't opened since the base
pub untold_by : (s : SessionId) (h : History) (sum : Sum) → is_open_in s h.base ≡ false → LeadsTo h sum → (IsPast s sum → ⊥) → transcript_in s h ≡ []
untold_by s h sum closed l new = by (was_opened_in s h) (history_tells s h sum closed l) where
  by : (b : Bool) → Tells b s sum (transcript_in s h) → transcript_in s h ≡ []
  by false t = t.none
  by true (inl t) = absurd (new (past_open sum s t.opened))
  by true (inr t) = absurd (new t.past)

-- ---- nothing is opened twice

past_all : (s : SessionId) (xs : List Entry) (sum : Sum) (m : ℕ) → Keeps sum → MayEnterAll sum m xs → IsPast s sum → (list_any (opens s) xs ≡ false) × IsPast s (sum_after_all xs sum)
past_all s [] sum m k f p = (refl, p)
past_all s (e ∷ xs) sum m k f p =
    let rest = past_all s xs (sum_after e sum) m (kept_after sum m e k f.0) f.1 (past_entry sum m e k f.0 s p) in
    ((λ i. past_unopened sum m e f.0 s p i || rest.0 i), rest.1)

-- a session that doesn't come after the last one of its client isn't opened by later batches
pub past_from : (s : SessionId) (log : Log) (sum : Sum) → IsSum sum → FollowAll sum log → IsPast s sum → list_any (opens s) (entries log) ≡ false
past_from s [] sum k f p = refl
past_from s (b ∷ log) sum k f p =
    let first = past_all s b.entries sum b.moment k.keeps (enters sum b.moment b.entries f.0.allowed) p in
    list_any-append (opens s) b.entries (entries log) ∙ (λ i. first.0 i || past_from s log (sum_with sum b) (sum_holds sum b k f.0) f.1 first.1 i)

past_by : (s : SessionId) (sum : Sum) (ms : List Down) → Tells true s sum ms → IsPast s sum
past_by s sum ms (inl t) = past_open sum s t.opened
past_by s sum ms (inr t) = t.past

pub opened_once : (s : SessionId) (h : History) (sum : Sum) (later : Log) → OpenedOnce s h sum later
opened_once s h sum later closed l f o =
    past_from s later sum (history_holds h sum l) f (past_by s sum (transcript_in s h) (subst (λ b. Tells b s sum (transcript_in s h)) o (history_tells s h sum (closed s) l)))

-- ---- batches one after another

follow_append : (log later : Log) (sum : Sum) → FollowAll sum log → FollowAll (sum_from sum log) later → FollowAll sum (log ++ later)
follow_append [] later sum f g = g
follow_append (b ∷ log) later sum f g = (f.0, follow_append log later (sum_with sum b) f.1 g)

sum_append : (log later : Log) (sum : Sum) → sum_from sum (log ++ later) ≡ sum_from (sum_from sum log) later
sum_append [] later sum = refl
sum_append (b ∷ log) later sum = sum_append log later (sum_with sum b)

answers_append : (log later : Log) (sum : Sum) → answers_from sum (log ++ later) ≡ answers_from sum log ++ answers_from (sum_from sum log) later
answers_append [] later sum = refl
answers_append (b ∷ log) later sum =
    ap (λ l. answers_by sum b.entries ++ l) (answers_append log later (sum_with sum b))
    ∙ sym (append_assoc (answers_by sum b.entries) (answers_from (sum_with sum b) log) (answers_from (sum_from (sum_with sum b) log) later))

pub leads_later : (h : History) (sum : Sum) (later : Log) → LeadsTo h sum → FollowAll sum later → LeadsTo (with_batches h later) (sum_from sum later)
leads_later h sum later l f = record {
  base = l.base;
  legal = follow_append h.log later h.base l.legal (subst (λ x. FollowAll x later) (sym l.there) f);
  there = sum_append h.log later h.base ∙ ap (λ x. sum_from x later) l.there;
}

-- ---- Gone is last

-- a beginning that holds it is all that was told
all_by_gone : (s : SessionId) (sum : Sum) (b : Bool) (xs rest ms : List Down) → Tells b s sum ms → xs ++ rest ≡ ms → list_any is_gone xs ≡ true → ms ≡ xs
all_by_gone s sum false xs rest ms t e h = absurd (true≢false (sym (has_gone_first xs rest h) ∙ ap (list_any is_gone) (e ∙ t.none)))
all_by_gone s sum true xs rest ms (inl t) e h = absurd (true≢false (sym (has_gone_first xs rest h) ∙ ap (list_any is_gone) e ∙ t.going))
all_by_gone s sum true xs rest ms (inr t) e h =
    let none : rest ≡ [] = (gone_prefix true xs rest ms (t.front, t.last, t.parted, t.going) e h).1 in
    sym e ∙ ap (λ l. xs ++ l) none ∙ append-nil xs

pub gone_is_last : (s : SessionId) (xs : List Down) (h : History) (sum : Sum) (later : Log) → GoneIsLastIn s xs h sum later
gone_is_last s xs h sum later closed l f p gone =
    all_by_gone s (sum_from sum later) (was_opened_in s (with_batches h later)) xs (p.0 ++ those_for s (answers_from (sum_from h.base h.log) later)) (transcript_in s (with_batches h later))
    (history_tells s (with_batches h later) (sum_from sum later) (closed s) (leads_later h sum later l f))
    (sym (append_assoc xs p.0 (those_for s (answers_from (sum_from h.base h.log) later)))
    ∙ ap (λ l. l ++ those_for s (answers_from (sum_from h.base h.log) later)) p.1
    ∙ sym (those-append s (answers_from h.base h.log) (answers_from (sum_from h.base h.log) later))
    ∙ ap (those_for s) (sym (answers_append h.log later h.base)))
    gone
