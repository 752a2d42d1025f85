-- The base that a checkpoint's row saves.
use Rattle.std.proofs.Common.{◌≡◌, ℕ, ◌&&◌, nat_le, List, [], ◌∷◌, map, Option, Some, None, Ok, option_map, refl, sym, ap, ◌∙◌, arith}
use Rattle.std.specs.Option.{option_and_then, unwrap_or}
use Rattle.std.proofs.lemmas.Option.{cond_some, same_Some}
use Rattle.sqlite.specs.Order.{Row, column}
use Rattle.sqlite.specs.Effect.{Database}
use Rattle.sqlite.specs.State.{State, IsUnchanged}
use Rattle.pres_ids.specs.Numbers.{greatest_number}
use Rattle.pres_write.specs.Moments.{last_moment}
use Rattle.pres_base.specs.declared.parts.BaseParts.{BaseParts}
use Rattle.pres_base_json.specs.Checks.{base_of_body}
use Rattle.pres_base_json.proofs.Bodies.{batches_beside}
use Rattle.pres_batch_rows.specs.RowContents.{RowContent, shown_row, shown_rows, shown_base, stored, whole_of, text_of}
use Rattle.pres_batch_rows.specs.SavedCheckpoints.{Base, base_as, base_in}
use Rattle.pres_batch_rows.specs.TableOpening.{greatest_in}
use Rattle.pres_batch_rows.proofs.Growing.{reads_base}
use Rattle.pres_server.specs.Sums.{Sum, nothing}
use Rattle.pres_server.specs.Histories.{History, begun_at}
use Rattle.pres_server.specs.BaseSums.{sum_for}
use Rattle.pres_keeper.specs.Keepers.{base_sum}
use Rattle.pres_saved.specs.SavedHistories.{sum_by, saved_sum, rows_log, history_of, history_from, saved_history, rows_readable, readable_from, readable_rows}
use Rattle.pres_saved.specs.SqlKeepers.{IsBaseReadBack}

-- ---- its number

mapped : {A B : Type 0} (f : A → B) (o : Option A) (b : B) → option_map f o ≡ Some b → (a : A) × (o ≡ Some a) × (f a ≡ b)
mapped f None b e = absurd (cc)
mapped f (Some a) b e = (a, refl, same_Some (f a) b e)

sum_counts : (saved : Base) (sum : Sum) → sum_by (Some saved) ≡ Some sum → saved.0 ≡ sum.batches
sum_counts saved sum e =
    let p = mapped sum_for (base_of_body saved.0 saved.1.moment saved.1.body) sum e in
    sym (batches_beside saved.0 saved.1.moment saved.1.body p.0 p.1) ∙ ap (λ (s : Sum). s.batches) p.2

number_as : (k moment : Option ℕ) (body : Option (List ℕ)) (saved : Base) → base_as k moment body ≡ Some saved → unwrap_or k 0 ≡ saved.0
number_as (Some k) (Some moment) (Some body) saved e =
    let made : Base = (k, record { moment = moment; body = body }) in
    ap (λ (b : Base). b.0) (cond_some (nat_le k greatest_number && nat_le moment last_moment) made saved e).1
number_as (Some k) (Some moment) None saved e = absurd (cc)
number_as (Some k) None body saved e = absurd (cc)
number_as None moment body saved e = absurd (cc)

row_top : (row : Row) (o : Option Base) (sum : Sum) → base_in row ≡ o → option_and_then sum_by (option_map Some o) ≡ Some sum → greatest_in (row ∷ []) ≡ sum.batches
row_top row None sum is e = absurd (cc)
row_top row (Some saved) sum is e =
    let k = number_as (whole_of (column row 0)) (whole_of (column row 1)) (text_of (column row 2)) saved is in
    let n = sum_counts saved sum e in
    omega (arith, k, n)

-- it is how many batches come before those of the rows
pub base_top : (base : List Row) (sum : Sum) → saved_sum base ≡ Some sum → greatest_in base ≡ sum.batches
base_top [] sum e = ap (λ (s : Sum). s.batches) (same_Some nothing sum e)
base_top (row ∷ []) sum e = row_top row (base_in row) sum refl e
base_top (row ∷ next ∷ more) sum e = absurd (cc)

-- ---- one that was put

-- it alone saves the history that begins at its sum
pub begun_back : (sum : Sum) (row : RowContent) (k : ℕ) → IsBaseReadBack sum row → k ≡ sum.batches → saved_history (shown_row (stored k row) ∷ []) [] ≡ Ok (begun_at sum)
begun_back sum row k back is =
    ap (λ n. saved_history (shown_row (stored n row) ∷ []) []) is
    ∙ ap (λ o. history_from (option_and_then sum_by o) []) (reads_base sum.batches row back.number back.moment back.text)
    ∙ ap (λ o. history_from o []) back.read

-- ---- where the base is read first, and then the rows

module _ (old mid : State) (base : Option BaseParts) (is : saved_sum (shown_base old) ≡ Some (base_sum base)) (same : IsUnchanged old mid) where
  same_rows : shown_rows mid ≡ shown_rows old
  same_rows = ap (λ (d : Database). map shown_row (d.trees 2)) same.0.now_is

  pub history_here : (history : History) → history.base ≡ base_sum base → rows_log (base_sum base) (shown_rows mid) ≡ Ok history.log → saved_history (shown_base old) (shown_rows old) ≡ Ok history
  history_here history begins read =
      ap (λ o. history_from o (shown_rows old)) is
      ∙ ap (λ rows. history_of (base_sum base) (rows_log (base_sum base) rows)) (sym same_rows)
      ∙ ap (history_of (base_sum base)) read
      ∙ (λ i. Ok (record { base = sym begins i; log = history.log }))

  pub readable_here : rows_readable (base_sum base) (shown_rows mid) ≡ readable_rows (shown_base old) (shown_rows old)
  readable_here = ap (rows_readable (base_sum base)) same_rows ∙ ap (λ o. readable_from o (shown_rows old)) (sym is)
