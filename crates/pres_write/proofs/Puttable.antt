-- Which drafts may be the puts of one operation, as a test and as facts.
use Rattle.std.proofs.Common.{◌≡◌, ℕ, zero, suc, ◌+◌, ◌<◌, ◌≤◌, List, [], ◌∷◌, length, Bool, true, false, not, ◌&&◌, ◌||◌, T, refl, sym, ◌∙◌, arith}
use native.Mathlib.Nat.{suc-add}
use Rattle.std.proofs.lemmas.Bool.{false≢true}
use Rattle.std.specs.Prelude.{nat_le, slice_index_or}
use Rattle.std.specs.List.{AllAdjacentBelow, IsAllAdjacentAnswer, AllByRecursion, list_any}
use Rattle.std.specs.List.Sorted.{IsStrictlySortedBy}
use Rattle.std.specs.Map.{keys_of}
use Rattle.std.specs.Ordering.{is_lt}
use Rattle.std.specs.declared.cmp.Ordering.{Ordering}
use Rattle.std.specs.declared.cmp.Ordering.TheVariants.{Less, Equal, Greater}
use Rattle.std.specs.Cmp.{both_ways}
use Rattle.std.specs.FinMap.Entries.{below_all, is_sorted}
use Rattle.std.proofs.lemmas.Bool.Decides.{nat_tests}
use Rattle.pres_tree.specs.Falls.{path_total}
use Rattle.pres_tree.specs.Paths.{Path, path_cmp, is_prefix, meet, overlap}
use Rattle.pres_tree.specs.Rows.{Rows}
use Rattle.pres_write.specs.declared.draft.DraftLeaf.{DraftLeaf}
use Rattle.pres_write.specs.Unconditionals.{ArePuts, may_be_puts}
use Rattle.pres_write.specs.Updates.{Places, most_places}
use Rattle.pres_write.proofs.Ordered.{rising_keys}
use Rattle.pres_write.proofs.Overlaps.{overlap-next}

-- whether the path of the first is before that of the second and not above it
abbrev pub steps : Path × Rows DraftLeaf → Path × Rows DraftLeaf → Bool
steps e f = is_lt (path_cmp e.0 f.0) && not (is_prefix e.0 f.0)

-- the paths rise, none at or above another
abbrev pub Puttable : Places → Type 0
Puttable es = IsStrictlySortedBy path_cmp (keys_of es) × (overlap (keys_of es) ≡ false)

less : (o : Ordering) → is_lt o ≡ true → o ≡ Less
less Less h = refl
less Equal h = absurd (false≢true h)
less Greater h = absurd (false≢true h)

both : (a b : Bool) → (a && b) ≡ true → (a ≡ true) × (b ≡ true)
both true b h = (refl, h)
both false b h = absurd (false≢true h)

one_not : (b : Bool) → not b ≡ true → b ≡ false
one_not true h = absurd (false≢true h)
one_not false h = refl

neither : (a b : Bool) → (a || b) ≡ false → (a ≡ false) × (b ≡ false)
neither true b h = absurd (false≢true (sym h))
neither false b h = (refl, h)

tested : (b : Bool) → T b → b ≡ true
tested true h = refl
tested false h = absurd h

-- ---- from each path to the next

below_more : (p q : Path) (xs : List Path) → path_cmp p q ≡ Less → AllByRecursion (λ x. path_cmp q x ≡ Less) xs → AllByRecursion (λ x. path_cmp p x ≡ Less) xs
below_more p q [] low h = tt
below_more p q (x ∷ xs) low h = (path_total.trans p q x low h.0, below_more p q xs low h.1)

put_before : (e f : Path × Rows DraftLeaf) (es : Places) → steps e f ≡ true → Puttable (f ∷ es) → Puttable (e ∷ f ∷ es)
unfolding IsStrictlySortedBy
put_before e f es step rest =
    let parts = both (is_lt (path_cmp e.0 f.0)) (not (is_prefix e.0 f.0)) step in
    let low : path_cmp e.0 f.0 ≡ Less = less (path_cmp e.0 f.0) parts.0 in
    let order : IsStrictlySortedBy path_cmp (keys_of (e ∷ f ∷ es)) = ((low, below_more e.0 f.0 (keys_of es) low rest.0.0), rest.0) in
    (order, overlap-next e.0 f.0 (keys_of es) order (one_not (is_prefix e.0 f.0) parts.1) ∙ rest.1)

all_step : (es : Places) → AllAdjacentBelow (λ e f. true ≡ steps e f) es (length es) → Puttable es
unfolding IsStrictlySortedBy
all_step [] h = (tt, refl)
all_step (e ∷ []) h = ((tt, tt), refl)
all_step (e ∷ f ∷ es) h = put_before e f es (sym (h 0 e (omega arith))) (all_step (f ∷ es) (λ k d l. simp suc-add at (h (suc k) d (omega arith))))

apart_parts : (p q : Path) (ps : List Path) → overlap (p ∷ q ∷ ps) ≡ false → (is_prefix p q ≡ false) × (overlap (q ∷ ps) ≡ false)
apart_parts p q ps h =
    let parts = neither (list_any (meet p) (q ∷ ps)) (overlap (q ∷ ps)) h in
    ((neither (is_prefix p q) (is_prefix q p) (neither (meet p q) (list_any (meet p) ps) parts.0).0).0, parts.1)

some_stays : (es : Places) (k : ℕ) → k + 1 < length es → ((d : Path × Rows DraftLeaf) → false ≡ steps (slice_index_or es k d) (slice_index_or es (k + 1) d)) → Puttable es → ⊥
unfolding IsStrictlySortedBy
some_stays [] k l h put = absurd (omega arith)
some_stays (e ∷ []) k l h put = absurd (omega arith)
some_stays (e ∷ f ∷ es) zero l h put =
    let other = (apart_parts e.0 f.0 (keys_of es) put.1).0 in
    false≢true (h e ∙ (λ i. is_lt (put.0.0.0 i) && not (other i)))
some_stays (e ∷ f ∷ es) (suc k) l h put = some_stays (f ∷ es) k (omega arith) (λ d. simp suc-add at (h d)) (put.0.1, (apart_parts e.0 f.0 (keys_of es) put.1).1)

-- ---- the test

below_each : (p : Path) (es : Places) → below_all path_cmp p es ≡ true → AllByRecursion (λ q. path_cmp p q ≡ Less) (keys_of es)
below_each p [] h = tt
below_each p (e ∷ es) h =
    let parts = both (is_lt (path_cmp p e.0)) (below_all path_cmp p es) h in
    (less (path_cmp p e.0) parts.0, below_each p es parts.1)

keys_rise : (es : Places) → is_sorted path_cmp es ≡ true → IsStrictlySortedBy path_cmp (keys_of es)
unfolding IsStrictlySortedBy
keys_rise [] h = tt
keys_rise (e ∷ es) h =
    let parts = both (below_all path_cmp e.0 es) (is_sorted path_cmp es) h in
    (below_each e.0 es parts.0, keys_rise es parts.1)

few : (n : ℕ) → nat_le n most_places ≡ true → n ≤ most_places
few n h = grind (arith, nat_tests)

few_enough : (n : ℕ) → n ≤ most_places → nat_le n most_places ≡ true
few_enough n h = grind (arith, nat_tests)

-- what passes the test are puts
pub passes : (es : Places) → may_be_puts es ≡ true → ArePuts es
passes es h =
    let first = both (is_sorted path_cmp es && not (overlap (keys_of es))) (nat_le (length es) most_places) h in
    let second = both (is_sorted path_cmp es) (not (overlap (keys_of es))) first.0 in
    record { in_order = keys_rise es second.0; apart = one_not (overlap (keys_of es)) second.1; few = few (length es) first.1 }

-- puts pass the test
pub puts_pass : (es : Places) → ArePuts es → may_be_puts es ≡ true
puts_pass es h =
    let sorted = tested (is_sorted path_cmp es) (rising_keys path_cmp es h.in_order) in
    λ i. sorted i && not (h.apart i) && few_enough (length es) h.few i

-- ---- what the walk answers

walked : (es : Places) (r : Bool) → IsAllAdjacentAnswer (λ e f b. b ≡ steps e f) es r → length es ≤ most_places → may_be_puts es ≡ r
walked es true h low = let put = all_step es h in puts_pass es (record { in_order = put.0; apart = put.1; few = low })
walked es false h low =
    both_ways (may_be_puts es) false
    (λ t. let puts = passes es t in absurd (some_stays es h.0 h.1 h.2 (puts.in_order, puts.apart)))
    (λ f. absurd (false≢true f))

-- few drafts, by what `is_sorted_by` answers
pub puts_answer : (es : Places) (r : Bool) → IsAllAdjacentAnswer (λ e f b. b ≡ steps e f) es r → length es ≤ most_places → r ≡ may_be_puts es
puts_answer es r h low = sym (walked es r h low)
