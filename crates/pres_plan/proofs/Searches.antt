-- Where keys stand in lists in their order: rows by their numbers, and spots by their paths.
use Rattle.std.proofs.Common.{refl, sym, ◌∙◌, ap, subst, ◌≡◌, ◌<◌, ◌≤◌, ◌+◌, ◌-◌, ◌^◌, ℕ, zero, suc, arith, List, [], ◌∷◌, ◌++◌, length, Bool, true, false, not, cond, true≢false, filter, take, drop, All, Option, Some, None, IfSome, IsSome, Ok, Err, inl, inr, Less, Greater, Equal, is_eq, is_gt, is_lt, eqb, ltb}
use Rattle.std.specs.Option.{SomeIff, option_copied}
use Rattle.std.specs.Borrow.{Bor}
use Rattle.std.specs.List.{AllByRecursion, AllWithin, slice_get, slice_index_or, slice_set, insert, remove}
use Rattle.std.specs.List.Sorted.{IsStrictlySortedBy, IsPartitionedBy, IsPartitionPoint}
use Rattle.std.specs.Map.{keys_of, values_of, lookup}
use Rattle.std.specs.BTreeMap.{BTreeMap, is_at}
use Rattle.std.specs.Cmp.{nat_cmp_is, tied_itself}
use Rattle.std.specs.Cmp.Lexicographic.{lists_ties, texts_ties, pointwise}
use Rattle.std.specs.Ordering.{nat_cmp, ordering_reverse}
use Rattle.std.specs.declared.cmp.Ordering.{Ordering}
use Rattle.std.proofs.lemmas.Bool.{false_from_ne_true, cases_order, eq-eqb, ne_eqb, ltb-true, ltb-false, lt-ltb}
use Rattle.std.proofs.lemmas.List.{take-append-drop}
use Rattle.std.proofs.lemmas.List.Elements.{filter-append, All-nil, All-cons}
use Rattle.std.proofs.lemmas.Map.Keys.{sorted_head, sorted_tail}
use Rattle.std_collections.specs.Layout.BTreeMap.{btree_map, seek}
use Rattle.std_collections.specs.Layout.Columns.{set_value_at}
use Rattle.std_collections.specs.BTreeMap.Comparable.{le_lt_trans}
use Rattle.std_collections.proofs.Entries.{lookup-none}
use Rattle.std_collections.proofs.Seek.{seek-Ok, seek_err, found_at, missing_at, sorted_insert}
use Rattle.std_collections.proofs.TreeMap.Lookup.{updates_remove, writes_through, Updates-insert}
use Rattle.pres_tree.specs.Keys.{key_cmp}
use Rattle.pres_tree.specs.Paths.{Path, path_cmp, is_prefix}
use Rattle.pres_tree.specs.Falls.{path_total, path_same as path_apart}
use Rattle.pres_tree.proofs.Places.{further, further_none, place_before, place_here, place_after, place_last}
use Rattle.pres_write.proofs.Overlaps.{between}
use Rattle.pres_plan.specs.declared.row.PlanRow.{PlanRow}
use Rattle.pres_plan.specs.declared.places.Spot.{Spot}
use Rattle.pres_plan.specs.Places.{Spots, spot_at, place_of, Sets, IsBefore}
use Rattle.pres_plan.specs.Standing.{Entries}
use Rattle.pres_plan.proofs.Covered.{all_found}
use Rattle.pres_plan.proofs.Numbers.{filter_all, filter_nothing, all_then, all_mapped, same_number, itself}
use Rattle.pres_plan.proofs.Tops.{prefix_le}

-- ---- lists

module _ {A : Type 0} where
  pub from_recursion : (P : A → Type 0) (xs : List A) → AllByRecursion P xs → All P xs
  from_recursion P [] a = All-nil P
  from_recursion P (x ∷ xs) a = All-cons P x xs a.0 (from_recursion P xs a.1)

  pub both_parts : (P : A → Type 0) (xs ys : List A) → AllByRecursion P xs → AllByRecursion P ys → AllByRecursion P (xs ++ ys)
  both_parts P [] ys a b = b
  both_parts P (x ∷ xs) ys a b = (a.0, both_parts P xs ys a.1 b)

  pub front : (P : A → Type 0) (xs : List A) (m : ℕ) → m ≤ length xs → AllWithin P xs 0 m → AllByRecursion P (take m xs)
  front P xs zero le f = tt
  front P [] (suc m) le f = absurd (omega (arith, le))
  front P (x ∷ xs) (suc m) le f = (f 0 x (omega arith) (omega arith), front P xs m (omega (arith, le)) (λ k d low high. f (suc k) d (omega arith) (omega (arith, high))))

  pub back : (P : A → Type 0) (xs : List A) (m : ℕ) → AllWithin P xs m (length xs) → AllByRecursion P (drop m xs)
  back P [] zero f = tt
  back P [] (suc m) f = tt
  back P (x ∷ xs) zero f = (f 0 x (omega arith) (omega arith), back P xs zero (λ k d low high. f (suc k) d (omega arith) (omega (arith, high))))
  back P (x ∷ xs) (suc m) f = back P xs m (λ k d low high. f (suc k) d (omega (arith, low)) (omega (arith, high)))

  at_index : (P : A → Type 0) (xs : List A) → AllByRecursion P xs → (j : ℕ) (d : A) → j < length xs → P (slice_index_or xs j d)
  at_index P [] a j d less = absurd (omega (arith, less))
  at_index P (x ∷ xs) a zero d less = a.0
  at_index P (x ∷ xs) a (suc j) d less = at_index P xs a.1 j d (omega (arith, less))

  -- what holds of all from an index on holds of the element at the index
  pub at_drop : (P : A → Type 0) (xs : List A) (i : ℕ) (d : A) → AllByRecursion P (drop i xs) → i < length xs → d ≡ slice_index_or xs i d → P d
  at_drop P [] i d a less is = absurd (omega (arith, less))
  at_drop P (x ∷ xs) zero d a less is = subst P (sym is) a.0
  at_drop P (x ∷ xs) (suc i) d a less is = at_drop P xs i d a (omega (arith, less)) is

  pub same_item : (xs : List A) (i : ℕ) (d e : A) → i < length xs → d ≡ slice_index_or xs i d → e ≡ slice_index_or xs i e → d ≡ e
  same_item [] i d e less is at = absurd (omega (arith, less))
  same_item (x ∷ xs) zero d e less is at = is ∙ sym at
  same_item (x ∷ xs) (suc i) d e less is at = same_item xs i d e (omega (arith, less)) is at

  ends_at : (xs : List A) (i : ℕ) (e : A) → Some e ≡ slice_get xs i → i + 1 ≡ length xs → (init : List A) × (xs ≡ init ++ e ∷ [])
  ends_at [] i e h l = absurd cc
  ends_at (x ∷ []) zero e h l = let same : x ≡ e = cc in ([], ap (λ y. y ∷ []) same)
  ends_at (x ∷ y ∷ ys) zero e h l = absurd (omega (arith, l))
  ends_at (x ∷ xs) (suc i) e h l = let rest = ends_at xs i e h (omega (arith, l)) in (x ∷ rest.0, ap (λ l. x ∷ l) rest.1)

  -- the last element, if there is one
  pub ends_with : (xs : List A) (e : A) → Some e ≡ slice_get xs (length xs - 1) → (init : List A) × (xs ≡ init ++ e ∷ [])
  ends_with [] e h = absurd cc
  ends_with (x ∷ xs) e h =
      let last : length (x ∷ xs) - 1 ≡ length xs = omega arith in
      ends_at (x ∷ xs) (length xs) e (h ∙ ap (slice_get (x ∷ xs)) last) (omega arith)

  some_within : (xs : List A) (i : ℕ) → i < length xs → None ≡ slice_get xs i → ⊥
  some_within [] i less h = absurd (omega (arith, less))
  some_within (x ∷ xs) zero less h = absurd cc
  some_within (x ∷ xs) (suc i) less h = some_within xs i (omega (arith, less)) h

  pub has_none : (xs : List A) → None ≡ slice_get xs (length xs - 1) → xs ≡ []
  has_none [] h = refl
  has_none (x ∷ xs) h = absurd (some_within (x ∷ xs) (length (x ∷ xs) - 1) (omega arith) h)

-- ---- keys that rise

module _ {K V : Type 0} (cmp : K → K → Ordering) where
  all_removed : (P : K → Type 0) (es : List (K × V)) (i : ℕ) → AllByRecursion P (keys_of es) → AllByRecursion P (keys_of (remove es i))
  all_removed P [] zero a = tt
  all_removed P [] (suc i) a = tt
  all_removed P (e ∷ es) zero a = a.1
  all_removed P (e ∷ es) (suc i) a = (a.0, all_removed P es i a.1)

  pub rise_removed : (es : List (K × V)) (i : ℕ) → IsStrictlySortedBy cmp (keys_of es) → IsStrictlySortedBy cmp (keys_of (remove es i))
  unfolding IsStrictlySortedBy
  rise_removed [] zero a = tt
  rise_removed [] (suc i) a = tt
  rise_removed (e ∷ es) zero a = a.1
  rise_removed (e ∷ es) (suc i) a = (all_removed (λ k. cmp e.0 k ≡ Less) es i a.0, rise_removed es i a.1)

  all_front : (P : K → Type 0) (xs ys : List (K × V)) → AllByRecursion P (keys_of (xs ++ ys)) → AllByRecursion P (keys_of xs)
  all_front P [] ys h = tt
  all_front P (x ∷ xs) ys h = (h.0, all_front P xs ys h.1)

  pub rise_front : (xs ys : List (K × V)) → IsStrictlySortedBy cmp (keys_of (xs ++ ys)) → IsStrictlySortedBy cmp (keys_of xs)
  unfolding IsStrictlySortedBy
  rise_front [] ys a = tt
  rise_front (x ∷ xs) ys a = (all_front (λ k. cmp x.0 k ≡ Less) xs ys a.0, rise_front xs ys a.1)

  all_pushed : (P : K → Type 0) (xs : List (K × V)) (e : K × V) → AllByRecursion P (keys_of xs) → P e.0 → AllByRecursion P (keys_of (xs ++ e ∷ []))
  all_pushed P [] e a h = (h, tt)
  all_pushed P (x ∷ xs) e a h = (a.0, all_pushed P xs e a.1 h)

  pub rise_pushed : (xs : List (K × V)) (e : K × V) → IsStrictlySortedBy cmp (keys_of xs) → AllByRecursion (λ x. cmp x.0 e.0 ≡ Less) xs → IsStrictlySortedBy cmp (keys_of (xs ++ e ∷ []))
  unfolding IsStrictlySortedBy
  rise_pushed [] e o low = (tt, tt)
  rise_pushed (x ∷ xs) e o low = (all_pushed (λ k. cmp x.0 k ≡ Less) xs e o.0 low.0, rise_pushed xs e o.1 low.1)

  -- the entries before the last one have lower keys
  pub rise_last : (xs : List (K × V)) (e : K × V) → IsStrictlySortedBy cmp (keys_of (xs ++ e ∷ [])) → AllByRecursion (λ x. cmp x.0 e.0 ≡ Less) xs
  unfolding IsStrictlySortedBy
  rise_last [] e o = tt
  rise_last (x ∷ xs) e o = (last xs o.0, rise_last xs e o.1) where
    last : (ys : List (K × V)) → AllByRecursion (λ k. cmp x.0 k ≡ Less) (keys_of (ys ++ e ∷ [])) → cmp x.0 e.0 ≡ Less
    last [] a = a.0
    last (y ∷ ys) a = last ys a.1

  -- where a test that a later key passes is passed by the earlier ones, those that pass come first
  pub parted : (p : K × V → Bool) → ((x y : K × V) → cmp x.0 y.0 ≡ Less → p y ≡ true → p x ≡ true) → (xs : List (K × V)) → IsStrictlySortedBy cmp (keys_of xs) → IsPartitionedBy p xs
  parted p earlier [] o i j d le less h = absurd (omega (arith, less))
  parted p earlier (x ∷ xs) o zero zero d le less h = h
  parted p earlier (x ∷ xs) o zero (suc j) d le less h =
      earlier x (slice_index_or xs j d) (at_index (λ e. cmp x.0 e.0 ≡ Less) xs (all_mapped (λ (e : K × V). e.0) (λ k. cmp x.0 k ≡ Less) xs (sorted_head cmp x.0 (keys_of xs) o)) j d (omega (arith, less))) h
  parted p earlier (x ∷ xs) o (suc i) zero d le less h = absurd (omega (arith, le))
  parted p earlier (x ∷ xs) o (suc i) (suc j) d le less h = parted p earlier xs (sorted_tail cmp x.0 (keys_of xs) o) i j d (omega (arith, le)) (omega (arith, less)) h

-- ---- rows by their numbers

pub lt_from_less : (n k : ℕ) → nat_cmp n k ≡ Less → n < k
lt_from_less n k h = elim (cases_order n k) [
  | inl e ↦ absurd (true≢false (sym (ap is_lt h) ∙ ap is_lt (sym (nat_cmp_is n k Equal e))))
  | inr o ↦ elim o [
    | inl l ↦ l
    | inr g ↦ absurd (true≢false (sym (ap is_lt h) ∙ ap is_lt (sym (nat_cmp_is n k Greater g))))
  ]
]

pub less_from_lt : (n k : ℕ) → n < k → nat_cmp n k ≡ Less
less_from_lt n k l = sym (nat_cmp_is n k Less l)

-- the rows of lower numbers come first
pub lower_numbers : (n : ℕ) (es : Entries) → IsStrictlySortedBy nat_cmp (keys_of es) → IsPartitionedBy (λ e. ltb e.0 n) es
lower_numbers n es o = parted nat_cmp (λ e. ltb e.0 n) (λ x y l h. let low = lt_from_less x.0 y.0 l in let high = ltb-true y.0 n h in lt-ltb x.0 n (omega (arith, low, high))) es o

-- what a binary search finds in a list, for the same list
pub sides : (n : ℕ) (es xs : Entries) (i : ℕ) → es ≡ xs → i ≤ length es → IsPartitionPoint (λ e. ltb e.0 n ≡ true) (λ e. ltb e.0 n ≡ false) es i → AllByRecursion (λ e. ltb e.0 n ≡ true) (take i xs) × AllByRecursion (λ e. ltb e.0 n ≡ false) (drop i xs)
sides n es xs i is le part = (
  subst (λ (l : Entries). AllByRecursion (λ e. ltb e.0 n ≡ true) (take i l)) is (front (λ (e : ℕ × PlanRow). ltb e.0 n ≡ true) es i le part.0),
  subst (λ (l : Entries). AllByRecursion (λ e. ltb e.0 n ≡ false) (drop i l)) is (back (λ (e : ℕ × PlanRow). ltb e.0 n ≡ false) es i part.1),
)

other_keys : (n : ℕ) (e : ℕ × PlanRow) (es : Entries) → IsStrictlySortedBy nat_cmp (keys_of (e ∷ es)) → n ≤ e.0 → AllByRecursion (λ x. eqb n x.0 ≡ false) es
other_keys n e es o le =
    all_mapped (λ (x : ℕ × PlanRow). x.0) (λ k. eqb n k ≡ false) es
    (all_then (λ k. nat_cmp e.0 k ≡ Less) (λ k. eqb n k ≡ false) (λ k l. let low = lt_from_less e.0 k l in ne_eqb n k (λ same. absurd (omega (arith, low, le, same)))) (keys_of es) (sorted_head nat_cmp e.0 (keys_of es) o))

none_has : (n : ℕ) (es : Entries) → AllByRecursion (λ x. eqb n x.0 ≡ false) es → (None ≡ lookup (is_at (nat_cmp n)) es) × (es ≡ filter (λ e. not (eqb n e.0)) es)
none_has n es a = (missing es a, sym (filter_all (λ e. not (eqb n e.0)) es (all_then (λ x. eqb n x.0 ≡ false) (λ x. not (eqb n x.0) ≡ true) (λ x h. ap not h) es a))) where
  missing : (xs : Entries) → AllByRecursion (λ x. eqb n x.0 ≡ false) xs → None ≡ lookup (is_at (nat_cmp n)) xs
  missing [] b = refl
  missing (x ∷ xs) b = missing xs b.1 ∙ sym (ap (λ c. cond c (Some x.1) (lookup (is_at (nat_cmp n)) xs)) (same_number n x.0 ∙ b.0))

-- the row of a number is taken
pub row_taken : (n : ℕ) (es : Entries) (i : ℕ) (e : ℕ × PlanRow) → IsStrictlySortedBy nat_cmp (keys_of es) → AllByRecursion (λ x. ltb x.0 n ≡ true) (take i es) → i < length es → e ≡ slice_index_or es i e → e.0 ≡ n →
    (Some e.1 ≡ lookup (is_at (nat_cmp n)) es) × (remove es i ≡ filter (λ x. not (eqb n x.0)) es)
row_taken n [] i e o low less is same = absurd (omega (arith, less))
row_taken n (x ∷ es) zero e o low less is same =
    let here : eqb n x.0 ≡ true = eq-eqb n x.0 (sym same ∙ ap (λ (y : ℕ × PlanRow). y.0) is) in (
      ap (λ (y : ℕ × PlanRow). Some y.1) is ∙ sym (ap (λ c. cond c (Some x.1) (lookup (is_at (nat_cmp n)) es)) (same_number n x.0 ∙ here)),
      (none_has n es (other_keys n x es o (let first = ap (λ (y : ℕ × PlanRow). y.0) is in omega (arith, first, same)))).1
          ∙ sym (ap (λ c. cond (not c) (x ∷ filter (λ y. not (eqb n y.0)) es) (filter (λ y. not (eqb n y.0)) es)) here),
    )
row_taken n (x ∷ es) (suc i) e o low less is same =
    let apart : eqb n x.0 ≡ false = let l = ltb-true x.0 n low.0 in ne_eqb n x.0 (λ q. absurd (omega (arith, l, q))) in
    let rest = row_taken n es i e (sorted_tail nat_cmp x.0 (keys_of es) o) low.1 (omega (arith, less)) is same in (
      rest.0 ∙ sym (ap (λ c. cond c (Some x.1) (lookup (is_at (nat_cmp n)) es)) (same_number n x.0 ∙ apart)),
      ap (λ l. x ∷ l) rest.1 ∙ sym (ap (λ c. cond (not c) (x ∷ filter (λ y. not (eqb n y.0)) es) (filter (λ y. not (eqb n y.0)) es)) apart),
    )

-- no row has the number
pub row_missing : (n : ℕ) (es : Entries) (i : ℕ) → IsStrictlySortedBy nat_cmp (keys_of es) → AllByRecursion (λ x. ltb x.0 n ≡ true) (take i es) → AllByRecursion (λ x. ltb x.0 n ≡ false) (drop i es) →
    ((d : ℕ × PlanRow) → i < length es → d ≡ slice_index_or es i d → eqb n d.0 ≡ false) → (None ≡ lookup (is_at (nat_cmp n)) es) × (es ≡ filter (λ x. not (eqb n x.0)) es)
row_missing n es i o low high other = none_has n es (all es i o low high other) where
  all : (xs : Entries) (i : ℕ) → IsStrictlySortedBy nat_cmp (keys_of xs) → AllByRecursion (λ x. ltb x.0 n ≡ true) (take i xs) → AllByRecursion (λ x. ltb x.0 n ≡ false) (drop i xs) →
      ((d : ℕ × PlanRow) → i < length xs → d ≡ slice_index_or xs i d → eqb n d.0 ≡ false) → AllByRecursion (λ x. eqb n x.0 ≡ false) xs
  all [] i o low high other = tt
  all (x ∷ xs) zero o low high other = (other x (omega arith) refl, other_keys n x xs o (ltb-false x.0 n high.0))
  all (x ∷ xs) (suc i) o low high other = (
    (let l = ltb-true x.0 n low.0 in ne_eqb n x.0 (λ q. absurd (omega (arith, l, q)))),
    all xs i (sorted_tail nat_cmp x.0 (keys_of xs) o) low.1 high (λ d less is. other d (omega (arith, less)) is),
  )

-- what a checked sum gives comes after all rows
pub after_last : (r : Option ℕ) (e : ℕ × PlanRow) (es : Entries) → SomeIff r (e.0 + 1 < 2 ^ 64) (e.0 + 1) → IsStrictlySortedBy nat_cmp (keys_of es) → Some e ≡ slice_get es (length es - 1) → IfSome r (λ n. All (λ x. x.0 < n) es)
after_last None e es h o last = tt
after_last (Some n) e es h o last =
    let it = ends_with es e last in
    from_recursion (λ x. x.0 < n) es
    (subst (AllByRecursion (λ x. x.0 < n)) (sym it.1)
    (both_parts (λ (x : ℕ × PlanRow). x.0 < n) it.0 (e ∷ [])
    (all_then (λ x. nat_cmp x.0 e.0 ≡ Less) (λ x. x.0 < n) (λ x l. let low = lt_from_less x.0 e.0 l in omega (arith, low, h.1)) it.0 (rise_last nat_cmp it.0 e (subst (λ (l : Entries). IsStrictlySortedBy nat_cmp (keys_of l)) it.1 o)))
    (omega (arith, h.1), tt)))

-- ---- the order of paths

pub less_is : (o : Ordering) → is_lt o ≡ true → o ≡ Less
less_is Less h = refl
less_is Equal h = absurd (true≢false (sym h))
less_is Greater h = absurd (true≢false (sym h))

eq_is : (o : Ordering) → is_eq o ≡ true → o ≡ Equal
eq_is Less h = absurd (true≢false (sym h))
eq_is Equal h = refl
eq_is Greater h = absurd (true≢false (sym h))

flipped : (p q : Path) → path_cmp p q ≡ Less → path_cmp q p ≡ Greater
flipped p q l = path_total.antisymm q p ∙ ap ordering_reverse l

-- what `==` says of two paths
equal_paths : (p q : Path) → pointwise (pointwise eqb) p q ≡ is_eq (path_cmp p q)
equal_paths p q = lists_ties key_cmp texts_ties p q

pub equal_is : (p q : Path) → pointwise (pointwise eqb) q p ≡ true → path_cmp p q ≡ Equal
equal_is p q h = path_total.antisymm p q ∙ ap ordering_reverse (eq_is (path_cmp q p) (sym (equal_paths q p) ∙ h))

pub above_is : (p q : Path) → pointwise (pointwise eqb) q p ≡ false → is_lt (path_cmp q p) ≡ false → path_cmp p q ≡ Less
above_is p q h l = path_total.antisymm p q ∙ ap ordering_reverse (by (path_cmp q p) refl) where
  by : (o : Ordering) → path_cmp q p ≡ o → path_cmp q p ≡ Greater
  by Less e = absurd (true≢false (sym (ap is_lt e) ∙ l))
  by Equal e = absurd (true≢false (sym (ap is_eq e) ∙ sym (equal_paths q p) ∙ h))
  by Greater e = e

-- ---- where a path stands among spots

-- the spots before a path come first
pub lower_first : (p : Path) (xs : Spots) → IsStrictlySortedBy path_cmp (keys_of xs) → IsPartitionedBy (λ e. is_lt (path_cmp e.0 p)) xs
lower_first p xs o = parted path_cmp (λ e. is_lt (path_cmp e.0 p)) (λ x y l h. ap is_lt (path_total.trans x.0 y.0 p l (less_is (path_cmp y.0 p) h))) xs o

module _ (p : Path) where
  stands_on : (es : Spots) (at : ℕ) (e : Path × Spot) (n : ℕ) → AllByRecursion (λ x. path_cmp x.0 p ≡ Less) (take at es) → at < length es → e ≡ slice_index_or es at e → path_cmp p e.0 ≡ Equal → Ok (n + at) ≡ further n (seek (path_cmp p) es)
  stands_on [] at e n low less is same = absurd (omega (arith, less))
  stands_on (f ∷ es) zero e n low less is same =
      (let z : n + 0 ≡ n = omega arith in ap Ok z) ∙ place_here (path_cmp p) f es n (ap (λ (x : Path × Spot). path_cmp p x.0) (sym is) ∙ same)
  stands_on (f ∷ es) (suc at) e n low less is same =
      (let z : n + suc at ≡ n + 1 + at = omega arith in ap Ok z)
      ∙ stands_on es at e (n + 1) low.1 (omega (arith, less)) is same
      ∙ sym (place_after (path_cmp p) f es n (flipped f.0 p low.0))

  pub stands_at : (es : Spots) (at : ℕ) (e : Path × Spot) → AllByRecursion (λ x. path_cmp x.0 p ≡ Less) (take at es) → at < length es → e ≡ slice_index_or es at e → path_cmp p e.0 ≡ Equal → Ok at ≡ place_of p es
  stands_at es at e low less is same = (let z : at ≡ 0 + at = omega arith in ap Ok z) ∙ stands_on es at e 0 low less is same ∙ sym (further_none (seek (path_cmp p) es))

  goes_on : (es : Spots) (at n : ℕ) → AllByRecursion (λ x. path_cmp x.0 p ≡ Less) (take at es) → at ≤ length es → ((d : Path × Spot) → at < length es → d ≡ slice_index_or es at d → path_cmp p d.0 ≡ Less) → Err (n + at) ≡ further n (seek (path_cmp p) es)
  goes_on [] zero n low le none = (let z : n + 0 ≡ n = omega arith in ap Err z) ∙ place_last {V = Spot} (path_cmp p) n [] refl
  goes_on [] (suc at) n low le none = absurd (omega (arith, le))
  goes_on (f ∷ es) zero n low le none = (let z : n + 0 ≡ n = omega arith in ap Err z) ∙ place_before (path_cmp p) f es n (none f (omega arith) refl)
  goes_on (f ∷ es) (suc at) n low le none =
      (let z : n + suc at ≡ n + 1 + at = omega arith in ap Err z)
      ∙ goes_on es at (n + 1) low.1 (omega (arith, le)) (λ d less is. none d (omega (arith, less)) is)
      ∙ sym (place_after (path_cmp p) f es n (flipped f.0 p low.0))

  pub goes_at : (es : Spots) (at : ℕ) → AllByRecursion (λ x. path_cmp x.0 p ≡ Less) (take at es) → at ≤ length es → ((d : Path × Spot) → at < length es → d ≡ slice_index_or es at d → path_cmp p d.0 ≡ Less) → Err at ≡ place_of p es
  goes_at es at low le none = (let z : at ≡ 0 + at = omega arith in ap Err z) ∙ goes_on es at 0 low le none ∙ sym (further_none (seek (path_cmp p) es))

set_there : (es : Spots) (i : ℕ) (e : Path × Spot) (s : Spot) → i < length es → e ≡ slice_index_or es i e → slice_set es i (e.0, s) ≡ set_value_at es i s
set_there [] i e s l h = absurd (omega arith)
set_there (f ∷ es) zero e s l h = λ j. ((h j).0, s) ∷ es
set_there (f ∷ es) (suc i) e s l h = ap (λ fs. f ∷ fs) (set_there es i e s (omega arith) h)

value_there : (es : Spots) (i : ℕ) (e : Path × Spot) → i < length es → e ≡ slice_index_or es i e → Some e.1 ≡ slice_get (values_of es) i
value_there [] i e l h = absurd (omega arith)
value_there (f ∷ es) zero e l h = λ j. Some (h j).1
value_there (f ∷ es) (suc i) e l h = value_there es i e (omega arith) h

abbrev as_map : Spots → BTreeMap Path Spot
as_map es = btree_map es (inl tt)

module _ (p : Path) (es : Spots) (i : ℕ) where
  pub within : place_of p es ≡ Ok i → i < length es
  within q = (seek-Ok (path_cmp p) es i q).0

  pub up_to : place_of p es ≡ Err i → i ≤ length es
  up_to q = (seek_err (path_cmp p) es i q).0

  pub found_spot : place_of p es ≡ Ok i → (e : Path × Spot) → e ≡ slice_index_or es i e → Some e.1 ≡ spot_at p es
  found_spot q e h = value_there es i e (within q) h ∙ sym (found_at (path_cmp p) es i q).value

  module _ (o : IsStrictlySortedBy path_cmp (keys_of es)) where
    pub no_spot : place_of p es ≡ Err i → None ≡ spot_at p es
    no_spot q = sym (lookup-none (is_at (path_cmp p)) es (missing_at (path_cmp p) (le_lt_trans path_total p) es i o q))

    pub sets : place_of p es ≡ Ok i → (e : Path × Spot) → e ≡ slice_index_or es i e → (s : Spot) → Sets p (Some s) es (slice_set es i (e.0, s)) × IsStrictlySortedBy path_cmp (keys_of (slice_set es i (e.0, s)))
    sets q e h s =
        let f = found_at (path_cmp p) es i q in
        let all = writes_through path_total (path_cmp p) (path_total.congr p) (as_map es) (as_map (slice_set es i (e.0, s))) o s (set_there es i e s (within q) h ∙ f.writes s) in
        ((all.3 f.there).0, all.4)

    pub puts : place_of p es ≡ Err i → (s : Spot) → Sets p (Some s) es (insert es i (p, s)) × IsStrictlySortedBy path_cmp (keys_of (insert es i (p, s)))
    puts q s = ((Updates-insert path_total p s (as_map es) (as_map (insert es i (p, s))) i o (sym q) refl).0, sorted_insert path_cmp p s path_total es i o q)

    pub takes : place_of p es ≡ Ok i → Sets p None es (remove es i) × IsStrictlySortedBy path_cmp (keys_of (remove es i))
    takes q = (
      (updates_remove path_total (path_cmp p) (path_total.congr p) (as_map es) (as_map (remove es i)) o (found_at (path_cmp p) es i q).removes).0,
      rise_removed path_cmp es i o,
    )

-- ---- the run below a path

-- no path before another one goes on with it
none_lower : (p : Path) (xs : Spots) → AllByRecursion (λ e. path_cmp e.0 p ≡ Less) xs → filter (λ e. is_prefix p e.0) xs ≡ []
none_lower p xs low = filter_nothing (λ e. is_prefix p e.0) xs (all_then (λ e. path_cmp e.0 p ≡ Less) (λ e. is_prefix p e.0 ≡ false) (λ e l. false_from_ne_true _ (λ h. true≢false (sym (ap is_gt (flipped e.0 p l)) ∙ prefix_le p e.0 h))) xs low)

-- those that go on with the path come first among those that do not come before it
pub run_first : (p : Path) (xs : Spots) → IsStrictlySortedBy path_cmp (keys_of xs) → AllByRecursion (λ e. is_lt (path_cmp e.0 p) ≡ false) xs → IsPartitionedBy (λ e. is_prefix p e.0) xs
run_first p [] o a i j d le less h = absurd (omega (arith, less))
run_first p (x ∷ xs) o a zero zero d le less h = h
run_first p (x ∷ xs) o a zero (suc j) d le less h = by (path_cmp p x.0) refl where
  high : path_cmp x.0 (slice_index_or xs j d).0 ≡ Less
  high = at_index (λ (e : Path × Spot). path_cmp x.0 e.0 ≡ Less) xs (all_mapped (λ (e : Path × Spot). e.0) (λ k. path_cmp x.0 k ≡ Less) xs (sorted_head path_cmp x.0 (keys_of xs) o)) j d (omega (arith, less))

  by : (c : Ordering) → path_cmp p x.0 ≡ c → is_prefix p x.0 ≡ true
  by Less e = between p x.0 (slice_index_or xs j d).0 e high h
  by Equal e = ap (is_prefix p) (sym (path_apart p x.0 e)) ∙ itself p
  by Greater e = absurd (true≢false (sym (ap is_lt (path_total.antisymm x.0 p ∙ ap ordering_reverse e)) ∙ a.0))
run_first p (x ∷ xs) o a (suc i) zero d le less h = absurd (omega (arith, le))
run_first p (x ∷ xs) o a (suc i) (suc j) d le less h = run_first p xs (sorted_tail path_cmp x.0 (keys_of xs) o) a.1 i j d (omega (arith, le)) (omega (arith, less)) h

pub rise_dropped : (xs : Spots) (n : ℕ) → IsStrictlySortedBy path_cmp (keys_of xs) → IsStrictlySortedBy path_cmp (keys_of (drop n xs))
rise_dropped xs zero o = o
rise_dropped [] (suc n) o = o
rise_dropped (x ∷ xs) (suc n) o = rise_dropped xs n (sorted_tail path_cmp x.0 (keys_of xs) o)

pub run_is : (p : Path) (xs : Spots) (n m : ℕ) → AllByRecursion (λ e. path_cmp e.0 p ≡ Less) (take n xs) → AllByRecursion (λ e. is_prefix p e.0 ≡ true) (take m (drop n xs)) → AllByRecursion (λ e. is_prefix p e.0 ≡ false) (drop m (drop n xs)) →
    take m (drop n xs) ≡ filter (λ e. is_prefix p e.0) xs
run_is p xs n m low run rest =
    sym (ap (filter f) (sym (take-append-drop n xs))
    ∙ filter-append f (take n xs) (drop n xs)
    ∙ ap (λ l. l ++ filter f (drop n xs)) (none_lower p (take n xs) low)
    ∙ ap (filter f) (sym (take-append-drop m (drop n xs)))
    ∙ filter-append f (take m (drop n xs)) (drop m (drop n xs))
    ∙ (λ i. filter_all f (take m (drop n xs)) run i ++ filter_nothing f (drop m (drop n xs)) rest i)
    ∙ append_nothing (take m (drop n xs)))
  where
    f : Path × Spot → Bool
    f e = is_prefix p e.0

    append_nothing : (l : Spots) → l ++ [] ≡ l
    append_nothing [] = refl
    append_nothing (x ∷ l) = ap (λ m. x ∷ m) (append_nothing l)

-- ---- the last spot before a path

-- what holds of each path holds of one that has a spot
some_at : (G : Path → Type 0) (q : Path) (es : Spots) → AllByRecursion (λ e. G e.0) es → IsSome (spot_at q es) → G q
some_at G q [] a h = absurd (true≢false (sym h))
some_at G q (e ∷ es) a h = by (is_at (path_cmp q) e.0) refl h (some_at G q es a.1) where
  by : (b : Bool) → is_at (path_cmp q) e.0 ≡ b → IsSome (cond b (Some e.1) (spot_at q es)) → (IsSome (spot_at q es) → G q) → G q
  by true t k rest = subst G (sym (path_apart q e.0 (eq_is (path_cmp q e.0) t))) a.0
  by false t k rest = rest k

found_among : (xs ys es : Spots) (e : Path × Spot) → AllByRecursion (λ x. spot_at x.0 es ≡ Some x.1) (xs ++ e ∷ ys) → spot_at e.0 es ≡ Some e.1
found_among [] ys es e a = a.0
found_among (x ∷ xs) ys es e a = found_among xs ys es e a.1

last_one : (P : Path × Spot → Type 0) (xs : Spots) (e : Path × Spot) → AllByRecursion P (xs ++ e ∷ []) → P e
last_one P [] e a = a.0
last_one P (x ∷ xs) e a = last_one P xs e a.1

module _ (p : Path) (es : Spots) (n : ℕ) (o : IsStrictlySortedBy path_cmp (keys_of es)) (low : AllByRecursion (λ e. path_cmp e.0 p ≡ Less) (take n es)) (high : AllByRecursion (λ e. is_lt (path_cmp e.0 p) ≡ false) (drop n es)) where
  all_of : (P : Path × Spot → Type 0) → AllByRecursion P (take n es) → AllByRecursion P (drop n es) → AllByRecursion P es
  all_of P a b = subst (AllByRecursion P) (take-append-drop n es) (both_parts P (take n es) (drop n es) a b)

  pub last_is : (r : Option (Bor (Path × Spot))) → option_copied r ≡ slice_get (take n es) (length (take n es) - 1) → IfSome r (λ e. IsBefore es p e.now.0 e.now.1)
  last_is None h = tt
  last_is (Some b) h = record {
    found = found_among it.0 (drop n es) es e (subst (AllByRecursion (λ x. spot_at x.0 es ≡ Some x.1)) whole (all_found es o));
    less = last_one (λ x. path_cmp x.0 p ≡ Less) it.0 e (subst (AllByRecursion (λ x. path_cmp x.0 p ≡ Less)) it.1 low);
    last = λ other l some. some_at (λ q. path_cmp q p ≡ Less → is_lt (path_cmp e.0 q) ≡ false) other es (all_of (λ x. path_cmp x.0 p ≡ Less → is_lt (path_cmp e.0 x.0) ≡ false) lower (all_then (λ x. is_lt (path_cmp x.0 p) ≡ false) (λ x. path_cmp x.0 p ≡ Less → is_lt (path_cmp e.0 x.0) ≡ false) (λ x f t. absurd (true≢false (sym (ap is_lt t) ∙ f))) (drop n es) high)) some l;
  } where
    e : Path × Spot
    e = b.now

    it : (init : Spots) × (take n es ≡ init ++ e ∷ [])
    it = ends_with (take n es) e h

    append_later : (xs ys : Spots) → (xs ++ e ∷ []) ++ ys ≡ xs ++ e ∷ ys
    append_later [] ys = refl
    append_later (x ∷ xs) ys = ap (λ l. x ∷ l) (append_later xs ys)

    whole : es ≡ it.0 ++ e ∷ drop n es
    whole = sym (take-append-drop n es) ∙ ap (λ l. l ++ drop n es) it.1 ∙ append_later it.0 (drop n es)

    front_rises : IsStrictlySortedBy path_cmp (keys_of (it.0 ++ e ∷ []))
    front_rises = subst (λ (l : Spots). IsStrictlySortedBy path_cmp (keys_of l)) it.1 (rise_front path_cmp (take n es) (drop n es) (subst (λ (l : Spots). IsStrictlySortedBy path_cmp (keys_of l)) (sym (take-append-drop n es)) o))

    lower : AllByRecursion (λ x. path_cmp x.0 p ≡ Less → is_lt (path_cmp e.0 x.0) ≡ false) (take n es)
    lower =
        subst (AllByRecursion (λ x. path_cmp x.0 p ≡ Less → is_lt (path_cmp e.0 x.0) ≡ false)) (sym it.1)
        (both_parts (λ x. path_cmp x.0 p ≡ Less → is_lt (path_cmp e.0 x.0) ≡ false) it.0 (e ∷ [])
        (all_then (λ x. path_cmp x.0 e.0 ≡ Less) (λ x. path_cmp x.0 p ≡ Less → is_lt (path_cmp e.0 x.0) ≡ false) (λ x l t. ap is_lt (flipped x.0 e.0 l)) it.0 (rise_last path_cmp it.0 e front_rises))
        ((λ t. ap is_lt (tied_itself path_total e.0)), tt))

  pub none_is : (r : Option (Bor (Path × Spot))) → option_copied r ≡ slice_get (take n es) (length (take n es) - 1) → r ≡ None → (q : Path) → path_cmp q p ≡ Less → spot_at q es ≡ None
  none_is r h none q l = nothing (spot_at q es) refl where
    empty : take n es ≡ []
    empty = has_none (take n es) (sym (ap option_copied none) ∙ h)

    higher : AllByRecursion (λ x. path_cmp x.0 p ≡ Less → true ≡ false) es
    higher = all_of (λ x. path_cmp x.0 p ≡ Less → true ≡ false) (subst (AllByRecursion (λ x. path_cmp x.0 p ≡ Less → true ≡ false)) (sym empty) tt) (all_then (λ x. is_lt (path_cmp x.0 p) ≡ false) (λ x. path_cmp x.0 p ≡ Less → true ≡ false) (λ x f t. sym (ap is_lt t) ∙ f) (drop n es) high)

    nothing : (r : Option Spot) → spot_at q es ≡ r → spot_at q es ≡ None
    nothing None e = e
    nothing (Some s) e = absurd (true≢false (some_at (λ y. path_cmp y p ≡ Less → true ≡ false) q es higher (subst IsSome (sym e) refl) l))
