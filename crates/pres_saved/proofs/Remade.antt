-- A server that is rebuilt from saved rows.
use Rattle.std.proofs.Common.{refl, sym, ◌∙◌, ap, subst, ◌≡◌, ℕ, ◌+◌, List, [], ◌∷◌, ◌++◌, Option, Some, None, Result, Ok, Err, append-nil}
use Rattle.std.proofs.lemmas.List.{append_assoc}
use Rattle.std.specs.Result.{result_unwrap_or}
use Rattle.sqlite.specs.Order.{Row}
use Rattle.pres_log.specs.declared.entry.Batch.{Batch}
use Rattle.pres_log.specs.Logs.{Log, number}
use Rattle.pres_batch_rows.specs.RowContents.{RowContent, saved_front}
use Rattle.pres_batch_rows.specs.RowIteration.{TakesAll}
use Rattle.pres_server.specs.Sums.{Sum}
use Rattle.pres_server.specs.Histories.{IsSum, LeadsTo}
use Rattle.pres_keeper.proofs.Nulls.{number_made}
use Rattle.pres_keeper.proofs.Behind.{leads_begun, leads_more}
use Rattle.pres_saved.specs.SavedHistories.{batch_in, log_then, log_after, front_by, log_front, rows_log, readable_by, rows_readable}
use Rattle.pres_saved.specs.RowReplay.{Follows}
use Rattle.pres_saved.proofs.Reading.{no_err, read_of, after_one}

-- the batches since the base that rows save, which lead to the sum
pub record Made (base : Sum) (given : List RowContent) (old : Log) (sum : Sum) : Type 0 where
  pub log : Log
  pub read : log_after base old given ≡ Ok log
  pub leads : LeadsTo (record { base = base; log = log }) sum

-- the row's batch is appended, and they lead to the sum with it
made_one : (base : Sum) (row : RowContent) (old : Log) (before after : Sum) (follows : Follows before row after) → LeadsTo (record { base = base; log = old }) before → LeadsTo (record { base = base; log = old ++ follows.batch ∷ [] }) after
made_one base row old before after follows leads =
    subst (LeadsTo (record { base = base; log = old ++ follows.batch ∷ [] })) (sym follows.added) (leads_more (record { base = base; log = old }) before follows.batch leads follows.may)

-- rows that are taken in turn go on with batches that lead to the sum before
made_from : (base : Sum) (given : List RowContent) (old : Log) (before after : Sum) → LeadsTo (record { base = base; log = old }) before → TakesAll Follows given before after → Made base given old after
made_from base [] old before after leads t = record { log = old; read = refl; leads = subst (LeadsTo (record { base = base; log = old })) (sym t) leads }
made_from base (row ∷ more) old before after leads t =
    let b = t.1.batch in
    let read : batch_in (base.number + number old) row ≡ Some b = ap (λ n. batch_in n row) (sym (number_made (record { base = base; log = old }) before leads)) ∙ t.1.read in
    let rest = made_from base more (old ++ b ∷ []) t.0 after (made_one base row old before t.0 t.1 leads) t.2 in
    record { log = rest.log; read = after_one base old (old ++ b ∷ []) row more b read refl ∙ rest.read; leads = rest.leads }

pub made_by : (base : Sum) (given : List RowContent) (before after : Sum) → IsSum base → before ≡ base → TakesAll Follows given before after → Made base given [] after
made_by base given before after k is t = made_from base given [] before after (subst (LeadsTo (record { base = base; log = [] })) (sym is) (leads_begun base k)) t

-- ---- the batches before the first row that saves none

front_further : (base : Sum) (old mid : Log) (o : Option Batch) (more rest : List RowContent)
    → ((l : Log) → log_after base l more ≡ Ok mid → log_front base l (more ++ rest) ≡ log_front base mid rest)
    → log_then base old o (λ l. log_after base l more) ≡ Ok mid
    → front_by old o (λ l. log_front base l (more ++ rest)) ≡ log_front base mid rest
front_further base old mid None more rest ih e = absurd (no_err _ mid _ refl e)
front_further base old mid (Some b) more rest ih e = ih (old ++ b ∷ []) e

-- the rest goes on from the batches of the first
pub then_front : (base : Sum) (given rest : List RowContent) (old mid : Log) → log_after base old given ≡ Ok mid → log_front base old (given ++ rest) ≡ log_front base mid rest
then_front base [] rest old mid e = ap (λ l. log_front base l rest) (ap (λ r. result_unwrap_or r old) e)
then_front base (row ∷ more) rest old mid e = front_further base old mid (batch_in (base.number + number old) row) more rest (λ l. then_front base more rest l mid) e

-- where all save one they are all
pub front_is : (base : Sum) (given : List RowContent) (old mid : Log) → log_after base old given ≡ Ok mid → log_front base old given ≡ mid
front_is base given old mid e = ap (log_front base old) (sym (append-nil given)) ∙ then_front base given [] old mid e

-- a row that saves none ends them
pub front_stops : (base : Sum) (log : Log) (row : RowContent) (rest : List RowContent) → batch_in (base.number + number log) row ≡ None → log_front base log (row ∷ rest) ≡ log
front_stops base log row rest none = ap (λ o. front_by log o (λ more. log_front base more rest)) none

front_grows_by : (base : Sum) (old : Log) (o : Option Batch) (more : List RowContent) → ((l : Log) → (later : Log) × (log_front base l more ≡ l ++ later)) → (later : Log) × (front_by old o (λ l. log_front base l more) ≡ old ++ later)
front_grows_by base old None more ih = ([], sym (append-nil old))
front_grows_by base old (Some b) more ih = let found = ih (old ++ b ∷ []) in (b ∷ found.0, found.1 ∙ append_assoc old (b ∷ []) found.0)

-- they are appended to what was there
pub front_grows : (base : Sum) (rows : List RowContent) (old : Log) → (later : Log) × (log_front base old rows ≡ old ++ later)
front_grows base [] old = ([], sym (append-nil old))
front_grows base (row ∷ more) old = front_grows_by base old (batch_in (base.number + number old) row) more (λ l. front_grows base more l)

front_more_by : (base : Sum) (old : Log) (o : Option Batch) (given rest : List RowContent) → ((l : Log) → (later : Log) × (log_front base l (given ++ rest) ≡ log_front base l given ++ later))
    → (later : Log) × (front_by old o (λ l. log_front base l (given ++ rest)) ≡ front_by old o (λ l. log_front base l given) ++ later)
front_more_by base old None given rest ih = ([], sym (append-nil old))
front_more_by base old (Some b) given rest ih = ih (old ++ b ∷ [])

-- with more rows they go on
pub front_more : (base : Sum) (given rest : List RowContent) (old : Log) → (later : Log) × (log_front base old (given ++ rest) ≡ log_front base old given ++ later)
front_more base [] rest old = front_grows base rest old
front_more base (row ∷ given) rest old = front_more_by base old (batch_in (base.number + number old) row) given rest (λ l. front_more base given rest l)

-- ---- what can be read

batches_by : (base : Sum) (front : Log) (r : Result Log ℕ) → ((log : Log) → r ≡ Ok log → front ≡ log) → (readable_by base front r).batches ≡ front
batches_by base front (Ok log) same = sym (same log refl)
batches_by base front (Err k) same = refl

-- these batches
pub read_batches : (base : Sum) (shown : List Row) → (rows_readable base shown).batches ≡ log_front base [] (saved_front base.batches shown)
read_batches base shown = batches_by base _ (rows_log base shown) (λ log all. front_is base (saved_front base.batches shown) [] log (read_of base shown log all).made)

base_by : (base : Sum) (front : Log) (r : Result Log ℕ) → (readable_by base front r).base ≡ Some base
base_by base front (Ok log) = refl
base_by base front (Err k) = refl

-- after the base
pub read_base : (base : Sum) (shown : List Row) → (rows_readable base shown).base ≡ Some base
read_base base shown = base_by base _ (rows_log base shown)
