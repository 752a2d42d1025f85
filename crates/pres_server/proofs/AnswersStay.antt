-- Kept answers stay, from entry to entry.
use Rattle.std.proofs.Common.{refl, sym, ◌∙◌, ap, subst, ◌≡◌, ℕ, ◌+◌, ◌≤◌, List, [], ◌∷◌, ◌++◌, append-nil, append_assoc, Bool, true, false, cond, IsTrue, arith}
use Rattle.std.specs.FinMap.Entries.{find}
use Rattle.std.proofs.lemmas.Bool.{le-leb, lt-leb}
use Rattle.std.proofs.lemmas.List.Elements.{filter-append}
use Rattle.std.specs.Prelude.{nat_le}
use Rattle.pres_write.specs.declared.outcome.Kept.{Kept}
use Rattle.pres_write.specs.Outcomes.{kept_of}
use Rattle.pres_ids.specs.Ids.{ClientId, client_cmp, same_client}
use Rattle.pres_retry.specs.declared.table.Row.{Row}
use Rattle.pres_retry.specs.Tables.{Table, row, rows_of}
use Rattle.pres_retry.specs.Above.{rows_up_to}
use Rattle.pres_retry.proofs.Records.{rows_of_recorded}
use Rattle.pres_log.specs.declared.entry.Entry.{Entry}
use Rattle.pres_log.specs.declared.entry.Entry.TheVariants as entry
use Rattle.pres_log.specs.Logs.{Log}
use Rattle.pres_base.specs.declared.parts.BaseParts.{BaseParts}
use Rattle.pres_base.specs.Bases.{are_done}
use Rattle.pres_server.specs.Sums.{Sum, sum_after, sum_after_all, sum_with, sum_from}
use Rattle.pres_server.specs.Histories.{History}
use Rattle.pres_server.specs.BaseSums.{sum_for}
use Rattle.pres_server.specs.AnswersStay.{AnswersStay, HistoryKeepsAnswers, HistorySplitsAnswers, BaseKeepsAnswers}
use Rattle.pres_server.proofs.Based.{done_of}
use Rattle.pres_server.proofs.KeptAnswers.{first_done, done_more, done_next}

module _ (client : ClientId) (base : Sum) where
  stays_itself : AnswersStay client base base
  stays_itself = record { since = []; behind = sym (append-nil (rows_of client base.rows)); after = refl; number = omega arith }

  -- an entry that answers no write of the client
  stays_further : (sum later : Sum) → rows_of client later.rows ≡ rows_of client sum.rows → later.number ≡ sum.number + 1 → AnswersStay client base sum → AnswersStay client base later
  stays_further sum later same next s = record {
    since = s.since;
    behind = same ∙ s.behind;
    after = done_more base.number sum.number later.number s.since (omega (arith, next)) s.after;
    number = let past = s.number in omega (arith, next, past);
  }

  -- one that answers its next write
  stays_with : (sum : Sum) (kept : Kept) (later : Sum) → rows_of client later.rows ≡ rows_of client sum.rows ++ row (sum.number + 1) kept ∷ [] → later.number ≡ sum.number + 1 → AnswersStay client base sum → AnswersStay client base later
  stays_with sum kept later more next s = record {
    since = s.since ++ row (sum.number + 1) kept ∷ [];
    behind = more ∙ ap (λ l. l ++ row (sum.number + 1) kept ∷ []) s.behind ∙ append_assoc (rows_of client base.rows) s.since (row (sum.number + 1) kept ∷ []);
    after = subst (λ n. IsTrue (are_done base.number n (s.since ++ row (sum.number + 1) kept ∷ []))) (sym next) (done_next base.number sum.number kept s.since s.number s.after);
    number = let past = s.number in omega (arith, next, past);
  }

  stays_after : (sum : Sum) (e : Entry) → AnswersStay client base sum → AnswersStay client base (sum_after e sum)
  stays_after sum (entry.Op t q n op outcome) s = by (same_client t.client client) (rows_of_recorded client t.client n (row (sum.number + 1) (kept_of outcome)) sum.rows) where
    later : Sum
    later = sum_after (entry.Op t q n op outcome) sum

    by : (own : Bool) → rows_of client later.rows ≡ rows_of client sum.rows ++ cond own (row (sum.number + 1) (kept_of outcome) ∷ []) [] → AnswersStay client base later
    by true more = stays_with sum (kept_of outcome) later more refl s
    by false none = stays_further sum later (none ∙ append-nil (rows_of client sum.rows)) refl s
  stays_after sum (entry.Open t) s = stays_further sum (sum_after (entry.Open t) sum) refl refl s
  stays_after sum (entry.Again t q n) s = stays_further sum (sum_after (entry.Again t q n) sum) refl refl s
  stays_after sum (entry.Left t q puts) s = stays_further sum (sum_after (entry.Left t q puts) sum) refl refl s
  stays_after sum (entry.Cancelled t q path) s = stays_further sum (sum_after (entry.Cancelled t q path) sum) refl refl s
  stays_after sum (entry.Denied t q why) s = stays_further sum (sum_after (entry.Denied t q why) sum) refl refl s
  stays_after sum (entry.On t q path) s = stays_further sum (sum_after (entry.On t q path) sum) refl refl s
  stays_after sum (entry.Off t q path) s = stays_further sum (sum_after (entry.Off t q path) sum) refl refl s
  stays_after sum (entry.Ended t q why rows) s = stays_further sum (sum_after (entry.Ended t q why rows) sum) refl refl s

  stays_after_all : (es : List Entry) (sum : Sum) → AnswersStay client base sum → AnswersStay client base (sum_after_all es sum)
  stays_after_all [] sum s = s
  stays_after_all (e ∷ es) sum s = stays_after_all es (sum_after e sum) (stays_after sum e s)

  stays_from : (log : Log) (sum : Sum) → AnswersStay client base sum → AnswersStay client base (sum_from sum log)
  stays_from [] sum s = s
  stays_from (b ∷ log) sum s =
      let all = stays_after_all b.entries sum s in
      stays_from log (sum_with sum b) (record { since = all.since; behind = all.behind; after = all.after; number = all.number })

pub history_keeps_answers : (h : History) (sum : Sum) (client : ClientId) → HistoryKeepsAnswers h sum client
history_keeps_answers h sum client l = subst (AnswersStay client h.base) l.there (stays_from client h.base h.log h.base (stays_itself client h.base))

-- ---- those that were made up to a number

-- all rows that were done by it
up_to_all : (a n : ℕ) (rows : List Row) → are_done a n rows ≡ true → rows_up_to n rows ≡ rows
up_to_all a n [] h = refl
up_to_all a n (x ∷ rows) h =
    let p = first_done a n x.done (are_done x.done n rows) h in
    ap (λ b. cond b (x ∷ rows_up_to n rows) (rows_up_to n rows)) (le-leb x.done n p.1) ∙ ap (λ l. x ∷ l) (up_to_all x.done n rows p.2)

-- none that was done after it
up_to_none : (m a n : ℕ) (rows : List Row) → m ≤ a → are_done a n rows ≡ true → rows_up_to m rows ≡ []
up_to_none m a n [] l h = refl
up_to_none m a n (x ∷ rows) l h =
    let p = first_done a n x.done (are_done x.done n rows) h in
    let past = p.0 in
    ap (λ b. cond b (x ∷ rows_up_to m rows) (rows_up_to m rows)) (lt-leb x.done m (omega (arith, l, past))) ∙ up_to_none m x.done n rows (omega (arith, l, past)) p.2

pub history_splits_answers : (h : History) (sum : Sum) (client : ClientId) → HistorySplitsAnswers h sum client
history_splits_answers h sum client l =
    let s = history_keeps_answers h sum client l in
    let n = h.base.number in
    let before = rows_of client h.base.rows in
    let all : rows_up_to n before ≡ before = up_to_all 0 n before (done_of n (find client_cmp client h.base.rows) (l.base.keeps.answers client)) in
    let none : rows_up_to n s.since ≡ [] = up_to_none n n sum.number s.since (omega arith) s.after in
    ap (rows_up_to n) s.behind ∙ filter-append (λ (x : Row). nat_le x.done n) before s.since ∙ (λ i. all i ++ none i) ∙ append-nil before

pub base_keeps_answers : (h : History) (earlier later : BaseParts) → BaseKeepsAnswers h earlier later
base_keeps_answers h earlier later is l client = subst (λ (base : Sum). rows_up_to base.number (rows_of client later_rows) ≡ rows_of client base.rows) (sym is) (history_splits_answers h (sum_for later) client l) where
  later_rows : Table
  later_rows = (sum_for later).rows
