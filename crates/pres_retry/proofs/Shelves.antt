-- Numbers in shelves, and the rows that they stand for.
use Rattle.std.proofs.Common.{◌≡◌, false, ℕ, zero, suc, ◌+◌, ◌-◌, ◌*◌, ◌<◌, ◌≤◌, List, [], ◌∷◌, ◌++◌, length, Option, Some, None, All, Bor, is_eq, refl, sym, ◌∙◌, ap, subst, append_assoc, append-nil, length-append, drop, drop-cons, arith}
use Rattle.std.proofs.Math.ListN.{drop_of_length-le}
use Rattle.std.specs.List.{flat_map, slice_get}
use Rattle.std.specs.Option.{option_map, option_copied}
use Rattle.std.specs.Slice.{IsItemAt}
use Rattle.std.specs.Ordering.{nat_cmp}
use Rattle.std.specs.Cmp.{Equal-is}
use Rattle.std.proofs.lemmas.List.Concat.{flat_map-append}
use Rattle.std.proofs.lemmas.List.Elements.{All-head, All-tail}
use Rattle.std.proofs.lemmas.Bool.{false_from_ne_true}
use Rattle.std.proofs.lemmas.Map.Lookups.{exact_unsigned}
use Rattle.std.proofs.lemmas.Option.{same_Some, get_or_from_slice_get, slice_get_past, slice_get_read, slice_get_within}
use Rattle.pres_ids.specs.Numbers.{greatest_number}
use Rattle.pres_write.specs.declared.outcome.Kept.{Kept}
use Rattle.pres_retry.specs.declared.table.Row.{Row}
use Rattle.pres_retry.specs.Shelves.{Shelves, StaleValues, AreFull, AreKept, shelf_length, numbers_in, kept_at, kept_by, stale_at, rows_from, rows_in}
use Rattle.pres_retry.specs.Tables.{row}

-- ---- lists one after the other

module _ {X : Type 0} where
  slice_get-front : (xs ys : List X) (i : ℕ) → i < length xs → slice_get (xs ++ ys) i ≡ slice_get xs i
  slice_get-front [] ys i within = absurd (omega arith)
  slice_get-front (x ∷ xs) ys zero within = refl
  slice_get-front (x ∷ xs) ys (suc i) within = slice_get-front xs ys i (omega arith)

  slice_get-back : (xs ys : List X) (i : ℕ) → slice_get (xs ++ ys) (length xs + i) ≡ slice_get ys i
  slice_get-back [] ys i = let e : 0 + i ≡ i = omega arith in ap (slice_get ys) e
  slice_get-back (x ∷ xs) ys i =
      let e : suc (length xs) + i ≡ suc (length xs + i) = omega arith in
      ap (slice_get (x ∷ xs ++ ys)) e ∙ slice_get-back xs ys i

  -- what `get` lends
  pub item_is : (xs : List X) (i : ℕ) (r : Option (Bor X)) → IsItemAt xs i r → option_copied r ≡ slice_get xs i
  item_is xs i None h = sym (slice_get_past xs i h.3)
  item_is xs i (Some x) h = sym (slice_get_read xs (length xs) i x.now refl h.3.0 h.1)

  past_from_none : (xs : List X) (i : ℕ) → slice_get xs i ≡ None → length xs ≤ i
  past_from_none [] i none = omega arith
  past_from_none (x ∷ xs) zero none = absurd (cc)
  past_from_none (x ∷ xs) (suc i) none = let later = past_from_none xs i none in omega (arith, later)

  -- what is left from a place on
  pub left_next : (xs : List X) (i : ℕ) (x : X) → Some x ≡ slice_get xs i → drop i xs ≡ x ∷ drop (i + 1) xs
  left_next xs i x is =
      let e : suc i ≡ i + 1 = omega arith in
      drop-cons xs i x (slice_get_within xs i x (sym is))
      ∙ ap (λ y. y ∷ drop (suc i) xs) (get_or_from_slice_get xs i x x (sym is))
      ∙ ap (λ m. x ∷ drop m xs) e

  pub left_none : (xs : List X) (i : ℕ) → None ≡ slice_get xs i → drop i xs ≡ []
  left_none xs i none = drop_of_length-le xs (past_from_none xs i (sym none))

-- ---- shelves of k numbers each

abbrev pub AreLong : ℕ → Shelves → Type 0
AreLong k full = All (λ (shelf : List ℕ). length shelf ≡ k) full

first_long : (k : ℕ) (shelf : List ℕ) (full : Shelves) → AreLong k (shelf ∷ full) → length shelf ≡ k
first_long k shelf full long = All-head (λ (s : List ℕ). length s ≡ k) shelf full long

others_long : (k : ℕ) (shelf : List ℕ) (full : Shelves) → AreLong k (shelf ∷ full) → AreLong k full
others_long k shelf full long = All-tail (λ (s : List ℕ). length s ≡ k) shelf full long

abbrev shelved : Shelves → List ℕ
shelved full = flat_map (λ (shelf : List ℕ). shelf) full

shelved_counted : (k : ℕ) (full : Shelves) → AreLong k full → length (shelved full) ≡ length full * k
shelved_counted k [] long = omega arith
shelved_counted k (shelf ∷ full) long =
    let first = first_long k shelf full long in
    let later = shelved_counted k full (others_long k shelf full long) in
    length-append shelf (shelved full) ∙ omega (arith, first, later)

-- how many numbers there are
pub numbers_counted : (k : ℕ) (full : Shelves) (last : List ℕ) → AreLong k full → length (numbers_in full last) ≡ length full * k + length last
numbers_counted k full last long =
    let e = shelved_counted k full long in
    length-append (shelved full) last ∙ ap (λ n. n + length last) e

-- a number that stands in a full shelf
pub number_within : (k : ℕ) (full : Shelves) (last : List ℕ) (q r : ℕ) (shelf : List ℕ) → AreLong k full → slice_get full q ≡ Some shelf → r < k
    → slice_get (numbers_in full last) (q * k + r) ≡ slice_get shelf r
number_within k [] last q r shelf long has below = absurd (cc)
number_within k (s ∷ full) last zero r shelf long has below =
    let first = first_long k s full long in
    let e : zero * k + r ≡ r = omega arith in
    let within : r < length s = omega (arith, first) in
    ap (λ xs. slice_get xs (zero * k + r)) (append_assoc s (shelved full) last)
    ∙ ap (slice_get (s ++ numbers_in full last)) e
    ∙ slice_get-front s (numbers_in full last) r within
    ∙ ap (λ (it : List ℕ). slice_get it r) (same_Some s shelf has)
number_within k (s ∷ full) last (suc q) r shelf long has below =
    let first = first_long k s full long in
    let e : suc q * k + r ≡ length s + (q * k + r) = omega (arith, first) in
    ap (λ xs. slice_get xs (suc q * k + r)) (append_assoc s (shelved full) last)
    ∙ ap (slice_get (s ++ numbers_in full last)) e
    ∙ slice_get-back s (numbers_in full last) (q * k + r)
    ∙ number_within k full last q r shelf (others_long k s full long) has below

-- one that stands past them
pub number_past : (k : ℕ) (full : Shelves) (last : List ℕ) (place : ℕ) → AreLong k full → length full * k ≤ place
    → slice_get (numbers_in full last) place ≡ slice_get last (place - length full * k)
number_past k full last place long past =
    let counted = shelved_counted k full long in
    let e : place ≡ length (shelved full) + (place - length full * k) = omega (arith, counted) in
    ap (slice_get (numbers_in full last)) e ∙ slice_get-back (shelved full) last (place - length full * k)

-- a shelf more, with no numbers past it
pub numbers_shelved : (full : Shelves) (shelf : List ℕ) → numbers_in (full ++ shelf ∷ []) [] ≡ numbers_in full shelf
numbers_shelved full shelf =
    append-nil (shelved (full ++ shelf ∷ []))
    ∙ flat_map-append (λ (s : List ℕ). s) full (shelf ∷ [])
    ∙ ap (λ xs. shelved full ++ xs) (append-nil shelf)

-- a number more
pub numbers_more : (full : Shelves) (last : List ℕ) (done : ℕ) → numbers_in full (last ++ done ∷ []) ≡ numbers_in full last ++ done ∷ []
numbers_more full last done = sym (append_assoc (shelved full) last (done ∷ []))

-- ---- rows

pub rows_counted : (n : ℕ) (numbers : List ℕ) (stale : StaleValues) → length (rows_from n numbers stale) ≡ length numbers
rows_counted n [] stale = refl
rows_counted n (done ∷ numbers) stale = ap (λ m. suc m) (rows_counted (n + 1) numbers stale)

pub row_at : (n : ℕ) (numbers : List ℕ) (stale : StaleValues) (i : ℕ) → slice_get (rows_from n numbers stale) i ≡ option_map (λ done. row done (kept_at (n + i) stale)) (slice_get numbers i)
row_at n [] stale i = refl
row_at n (done ∷ numbers) stale zero =
    let e : n ≡ n + 0 = omega arith in
    ap (λ m. Some (row done (kept_at m stale))) e
row_at n (done ∷ numbers) stale (suc i) =
    let e : n + 1 + i ≡ n + suc i = omega arith in
    row_at (n + 1) numbers stale i ∙ ap (λ m. option_map (λ d. row d (kept_at m stale)) (slice_get numbers i)) e

rows_more : (n : ℕ) (numbers : List ℕ) (done : ℕ) (stale : StaleValues) → rows_from n (numbers ++ done ∷ []) stale ≡ rows_from n numbers stale ++ row done (kept_at (n + length numbers) stale) ∷ []
rows_more n [] done stale =
    let e : n ≡ n + 0 = omega arith in
    ap (λ m. row done (kept_at m stale) ∷ []) e
rows_more n (d ∷ numbers) done stale =
    let e : n + 1 + length numbers ≡ n + suc (length numbers) = omega arith in
    ap (λ rows. row d (kept_at n stale) ∷ rows)
    (rows_more (n + 1) numbers done stale ∙ ap (λ m. rows_from (n + 1) numbers stale ++ row done (kept_at m stale) ∷ []) e)

rows_alike : (n : ℕ) (numbers : List ℕ) (a b : StaleValues) → ((m : ℕ) → m < n + length numbers → kept_at m a ≡ kept_at m b) → rows_from n numbers a ≡ rows_from n numbers b
rows_alike n [] a b alike = refl
rows_alike n (done ∷ numbers) a b alike =
    let rest : rows_from (n + 1) numbers a ≡ rows_from (n + 1) numbers b = rows_alike (n + 1) numbers a b (λ m below. alike m (omega arith)) in
    ap (λ kept. row done kept ∷ rows_from (n + 1) numbers a) (alike n (omega arith))
    ∙ ap (λ rows. row done (kept_at n b) ∷ rows) rest

-- the next write is done at the number, and counts as stale where it is
pub rows_pushed : (numbers : List ℕ) (done : ℕ) (kept : Kept) (a b : StaleValues) → ((m : ℕ) → m < length numbers + 1 → kept_at m a ≡ kept_at m b) → kept_at (length numbers + 1) b ≡ kept
    → rows_from 1 (numbers ++ done ∷ []) b ≡ rows_from 1 numbers a ++ row done kept ∷ []
rows_pushed numbers done kept a b alike is =
    let e : 1 + length numbers ≡ length numbers + 1 = omega arith in
    rows_more 1 numbers done b
    ∙ ap (λ rows. rows ++ row done (kept_at (1 + length numbers) b) ∷ []) (sym (rows_alike 1 numbers a b (λ m below. alike m (omega arith))))
    ∙ ap (λ k. rows_from 1 numbers a ++ row done k ∷ []) (ap (λ m. kept_at m b) e ∙ is)

-- ---- what a client's answers are

pub answers_counted : (full : Shelves) (last : List ℕ) (stale : StaleValues) (rows : List Row) → rows_in full last stale ≡ rows → length (numbers_in full last) ≡ length rows
answers_counted full last stale rows is = sym (rows_counted 1 (numbers_in full last) stale) ∙ ap length is

pub answers_few : (full : Shelves) (last : List ℕ) (stale : StaleValues) (rows : List Row) → rows_in full last stale ≡ rows → AreKept full last stale → length rows ≤ greatest_number
answers_few full last stale rows is kept = subst (λ n. n ≤ greatest_number) (answers_counted full last stale rows is) kept.few

-- the answer at a place
pub answer_at : (full : Shelves) (last : List ℕ) (stale : StaleValues) (rows : List Row) → rows_in full last stale ≡ rows → (place : ℕ) (found : Option ℕ) → found ≡ slice_get (numbers_in full last) place
    → option_map (λ done. row done (kept_at (place + 1) stale)) found ≡ slice_get rows place
answer_at full last stale rows is place found has =
    let e : place + 1 ≡ 1 + place = omega arith in
    ap (λ m. option_map (λ done. row done (kept_at m stale)) found) e
    ∙ ap (option_map (λ done. row done (kept_at (1 + place) stale))) has
    ∙ sym (row_at 1 (numbers_in full last) stale place)
    ∙ ap (λ rs. slice_get rs place) is

-- ---- one answer more

-- no entry is at another number
pub apart_at : (n m : ℕ) → (m ≡ n → ⊥) → is_eq (nat_cmp n m) ≡ false
apart_at n m differs = false_from_ne_true (is_eq (nat_cmp n m)) (λ same. differs (sym (exact_unsigned n m ((Equal-is (nat_cmp n m)).0 same))))

-- write n came to this, and the others to what they did
pub record IsNext (n : ℕ) (kept : Kept) (stale after : StaleValues) : Type 0 where
  pub own : kept_at n after ≡ kept
  pub others : (m : ℕ) → (m ≡ n → ⊥) → stale_at m after ≡ stale_at m stale

module _ (full full' : Shelves) (last last' : List ℕ) (stale stale' : StaleValues) (rows : List Row) (n done : ℕ) (kept : Kept)
    (view : rows_in full last stale ≡ rows) (turn : n ≡ length rows + 1) (same : numbers_in full' last' ≡ numbers_in full last) (next : IsNext n kept stale stale') where
  numbers_next : length (numbers_in full last) + 1 ≡ n
  numbers_next = ap (λ m. m + 1) (answers_counted full last stale rows view) ∙ sym turn

  numbers_after : numbers_in full' (last' ++ done ∷ []) ≡ numbers_in full last ++ done ∷ []
  numbers_after = numbers_more full' last' done ∙ ap (λ xs. xs ++ done ∷ []) same

  pub rows_after : rows_in full' (last' ++ done ∷ []) stale' ≡ rows ++ row done kept ∷ []
  rows_after =
      ap (λ xs. rows_from 1 xs stale') numbers_after
      ∙ rows_pushed (numbers_in full last) done kept stale stale'
      (λ m below. ap kept_by (sym (next.others m (λ is. let e = numbers_next in omega (arith, e, is)))))
      (ap (λ m. kept_at m stale') numbers_next ∙ next.own)
      ∙ ap (λ rs. rs ++ row done kept ∷ []) view

  pub kept_after : AreKept full last stale → n ≤ greatest_number → AreFull full' → length last' < shelf_length → AreKept full' (last' ++ done ∷ []) stale'
  kept_after before number full_still room =
      let counted : length (numbers_in full' (last' ++ done ∷ [])) ≡ n = ap length numbers_after ∙ length-append (numbers_in full last) (done ∷ []) ∙ numbers_next in
      record {
        shelves = full_still;
        room = let e = length-append last' (done ∷ []) in omega (arith, e, room);
        few = subst (λ m. m ≤ greatest_number) (sym counted) number;
        later = λ m after. next.others m (λ is. omega (arith, counted, is, after)) ∙ before.later m (let e = numbers_next in omega (arith, e, counted, after));
      }
