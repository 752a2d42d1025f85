-- Of rows that rise, those that were done after a number are the last ones.
use Rattle.std.proofs.Common.{refl, sym, ◌∙◌, ap, ◌≡◌, ℕ, zero, suc, ◌+◌, ◌<◌, ◌≤◌, arith, List, [], ◌∷◌, ◌++◌, drop, length, true, false, cond, Some, ltb}
use Rattle.std.specs.List.{slice_get}
use Rattle.std.proofs.lemmas.Bool.{lt-ltb, le-ltb, le-leb, lt-leb, ltb-true, ltb-false}
use Rattle.std.proofs.lemmas.Option.{same_Some}
use Rattle.pres_retry.specs.declared.table.Row.{Row}
use Rattle.pres_retry.specs.Above.{rows_above, rows_up_to, AreRising}

-- a place before the end has a row
pub row_within : (rows : List Row) (i : ℕ) → i < length rows → (r : Row) × (slice_get rows i ≡ Some r)
row_within [] i within = absurd (omega arith)
row_within (x ∷ rows) zero within = (x, refl)
row_within (x ∷ rows) (suc i) within = row_within rows i (omega arith)

-- the row at a place was done after the number before the first
done_after : (b : ℕ) (rows : List Row) (i : ℕ) (r : Row) → AreRising b rows → slice_get rows i ≡ Some r → b < r.done
done_after b [] i r rise is = absurd (cc)
done_after b (x ∷ rows) zero r rise is = let same : x.done ≡ r.done = ap (λ (y : Row). y.done) (same_Some x r is) in omega (arith, rise.0, same)
done_after b (x ∷ rows) (suc i) r rise is = let later = done_after x.done rows i r rise.1 is in omega (arith, rise.0, later)

-- a first row that was done before the number or at it
above_none : (n : ℕ) (x : Row) (rows : List Row) → x.done ≤ n → rows_above n (x ∷ rows) ≡ rows_above n rows
above_none n x rows before = ap (λ b. cond b (x ∷ rows_above n rows) (rows_above n rows)) (le-ltb n x.done before)

-- rows that all were done after the number
pub above_all : (n b : ℕ) (rows : List Row) → n ≤ b → AreRising b rows → rows_above n rows ≡ rows
above_all n b [] after rise = refl
above_all n b (x ∷ rows) after rise =
    ap (λ t. cond t (x ∷ rows_above n rows) (rows_above n rows)) (lt-ltb n x.done (omega (arith, after, rise.0)))
    ∙ ap (λ l. x ∷ l) (above_all n x.done rows (omega (arith, after, rise.0)) rise.1)

-- where the row at a place was done at the number or before it, those after it have all that came later
pub above_past : (n b : ℕ) (rows : List Row) (i : ℕ) (r : Row) → AreRising b rows → slice_get rows i ≡ Some r → r.done ≤ n → rows_above n (drop (i + 1) rows) ≡ rows_above n rows
above_past n b [] i r rise is before = absurd (cc)
above_past n b (x ∷ rows) zero r rise is before =
    let same : x.done ≡ r.done = ap (λ (y : Row). y.done) (same_Some x r is) in
    sym (above_none n x rows (omega (arith, same, before)))
above_past n b (x ∷ rows) (suc i) r rise is before =
    let later = done_after x.done rows i r rise.1 is in
    let e : suc i + 1 ≡ suc (i + 1) = omega arith in
    ap (λ m. rows_above n (drop m (x ∷ rows))) e
    ∙ above_past n x.done rows i r rise.1 is before
    ∙ sym (above_none n x rows (omega (arith, later, before)))

-- where the row at a place was done after the number, so were all from it on
pub above_from : (n b : ℕ) (rows : List Row) (i : ℕ) (r : Row) → AreRising b rows → slice_get rows i ≡ Some r → n < r.done → rows_above n (drop i rows) ≡ drop i rows
above_from n b [] i r rise is after = absurd (cc)
above_from n b (x ∷ rows) zero r rise is after =
    let same : x.done ≡ r.done = ap (λ (y : Row). y.done) (same_Some x r is) in
    ap (λ t. cond t (x ∷ rows_above n rows) (rows_above n rows)) (lt-ltb n x.done (omega (arith, same, after)))
    ∙ ap (λ l. x ∷ l) (above_all n x.done rows (omega (arith, same, after)) rise.1)
above_from n b (x ∷ rows) (suc i) r rise is after = above_from n x.done rows i r rise.1 is after

-- rows that all were done after the number: none was done before it
none_up_to : (n b : ℕ) (rows : List Row) → n ≤ b → AreRising b rows → rows_up_to n rows ≡ []
none_up_to n b [] after rise = refl
none_up_to n b (x ∷ rows) after rise =
    ap (λ t. cond t (x ∷ rows_up_to n rows) (rows_up_to n rows)) (lt-leb x.done n (omega (arith, after, rise.0)))
    ∙ none_up_to n x.done rows (omega (arith, after, rise.0)) rise.1

-- those that were done at a number or before it, and those after it, are all
pub rows_join : (n b : ℕ) (rows : List Row) → AreRising b rows → rows_up_to n rows ++ rows_above n rows ≡ rows
rows_join n b [] rise = refl
rows_join n b (x ∷ rows) rise = elim (ltb n x.done) as (λ t. ltb n x.done ≡ t → rows_up_to n (x ∷ rows) ++ rows_above n (x ∷ rows) ≡ x ∷ rows) [
  | true ↦ λ is.
      let past : AreRising n (x ∷ rows) = (ltb-true n x.done is, rise.1) in
      let none = none_up_to n n (x ∷ rows) (omega arith) past in
      let all = above_all n n (x ∷ rows) (omega arith) past in
      λ i. none i ++ all i
  | false ↦ λ is.
      let before = ltb-false n x.done is in
      let first = ap (λ t. cond t (x ∷ rows_up_to n rows) (rows_up_to n rows)) (le-leb x.done n before) in
      let rest = above_none n x rows before in
      (λ i. first i ++ rest i) ∙ ap (λ l. x ∷ l) (rows_join n x.done rows rise.1)
] refl
