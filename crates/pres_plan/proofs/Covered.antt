-- Which rows new ones cover, by the spots of their paths, and how many.
use Rattle.std.proofs.Common.{refl, sym, ◌∙◌, ap, subst, ◌≡◌, ◌≤◌, ◌+◌, ◌-◌, ℕ, arith, List, [], ◌∷◌, ◌++◌, map, length, Bool, true, false, not, cond, ◌||◌, ◌&&◌, true≢false, filter, Option, Some, None, inl, inr, Less, is_eq, eqb}
use Rattle.std.specs.List.{list_any, AllByRecursion}
use Rattle.std.specs.List.Sorted.{IsStrictlySortedBy}
use Rattle.std.specs.Map.{keys_of, values_of, lookup}
use Rattle.std.specs.BTreeMap.{is_at}
use Rattle.std.specs.Cmp.{both_ways, tied_itself}
use Rattle.std.specs.Ordering.{nat_cmp, ordering_reverse}
use Rattle.std.proofs.lemmas.Bool.{or_cases, or_left, or_right, or_parts, or_from, and_parts, and_from, false_from_ne_true}
use Rattle.std.proofs.lemmas.List.{map-append, length-map}
use Rattle.std.proofs.lemmas.List.Elements.{filter-append}
use Rattle.std.proofs.lemmas.List.Filters.{length-filter_both}
use Rattle.std.proofs.lemmas.List.Folds.{list_any-append}
use Rattle.std.proofs.lemmas.Map.{lookup-none}
use Rattle.std.proofs.lemmas.Map.Keys.{sorted_head, sorted_tail}
use Rattle.pres_tree.specs.Paths.{Path, path_cmp, same_path, is_prefix, meet, overlap}
use Rattle.pres_tree.specs.Falls.{path_total}
use Rattle.pres_tree.proofs.PathOrder.{path_same, path_itself, same_by_cmp}
use Rattle.pres_tree.proofs.Values.{above_one}
use Rattle.pres_plan.specs.declared.row.PlanRow.{PlanRow}
use Rattle.pres_plan.specs.declared.places.Spot.{Spot}
use Rattle.pres_plan.specs.Places.{Spots, spot_at}
use Rattle.pres_plan.specs.Plans.{path_of, is_left}
use Rattle.pres_plan.specs.Standing.{Entries, numbers_at, numbers_of, before_of, numbers_below, Tells, IsStanding}
use Rattle.pres_plan.proofs.Numbers.{filter_map_later, filter_either_way, filter_all, filter_alike, all_then, any_mapped, any_nothing, any_so, at, has, none_before, one_path, all_have, one_each}

-- ---- lists

any_filtered : {A : Type 0} (f k : A → Bool) (xs : List A) → list_any f (filter k xs) ≡ list_any (λ x. k x && f x) xs
any_filtered f k [] = refl
any_filtered f k (x ∷ xs) = elim (k x) as (λ b. list_any f (cond b (x ∷ filter k xs) (filter k xs)) ≡ ((b && f x) || list_any (λ x. k x && f x) xs)) [
  | true ↦ ap (λ b. f x || b) (any_filtered f k xs)
  | false ↦ any_filtered f k xs
]

any_looked : (g : Path × Spot → Bool) (y : Path) (s : Spot) (spots : List (Path × Spot)) → lookup (is_at (path_cmp y)) spots ≡ Some s → g (y, s) ≡ true → list_any g spots ≡ true
any_looked g y s [] h k = absurd cc
any_looked g y s (e ∷ spots) h k = by (is_at (path_cmp y) e.0) refl h (λ f. any_looked g y s spots f k) where
  tied : is_at (path_cmp y) e.0 ≡ true → y ≡ e.0
  tied t = path_same y e.0 (same_by_cmp y e.0 ∙ t)

  by : (b : Bool) → is_at (path_cmp y) e.0 ≡ b → cond b (Some e.1) (lookup (is_at (path_cmp y)) spots) ≡ Some s → (lookup (is_at (path_cmp y)) spots ≡ Some s → list_any g spots ≡ true) → (g e || list_any g spots) ≡ true
  by true t f rest =
      let is : e.1 ≡ s = cc in
      or_left (g e) _ (ap g (λ i. (sym (tied t) i, is i)) ∙ k)
  by false t f rest = or_right (g e) _ (rest f)

sorted_front : (xs ys : Entries) → IsStrictlySortedBy nat_cmp (keys_of (xs ++ ys)) → IsStrictlySortedBy nat_cmp (keys_of xs)
unfolding IsStrictlySortedBy
sorted_front [] ys o = tt
sorted_front (x ∷ xs) ys o = (front xs o.0, sorted_front xs ys o.1) where
  front : (zs : Entries) → AllByRecursion (λ k. nat_cmp x.0 k ≡ Less) (keys_of (zs ++ ys)) → AllByRecursion (λ k. nat_cmp x.0 k ≡ Less) (keys_of zs)
  front [] a = tt
  front (z ∷ zs) a = (a.0, front zs a.1)

-- the rows after others have greater numbers
pub sorted_behind : (xs ys : Entries) → IsStrictlySortedBy nat_cmp (keys_of (xs ++ ys)) → AllByRecursion (λ y. AllByRecursion (λ k. nat_cmp k y.0 ≡ Less) (keys_of xs)) ys
sorted_behind [] ys o = none ys where
  none : (zs : Entries) → AllByRecursion (λ y. AllByRecursion (λ k. nat_cmp k y.0 ≡ Less) []) zs
  none [] = tt
  none (z ∷ zs) = (tt, none zs)
sorted_behind (x ∷ xs) ys o = both ys (back xs (sorted_head nat_cmp x.0 (keys_of (xs ++ ys)) o)) (sorted_behind xs ys (sorted_tail nat_cmp x.0 (keys_of (xs ++ ys)) o)) where
  back : (zs : Entries) → AllByRecursion (λ k. nat_cmp x.0 k ≡ Less) (keys_of (zs ++ ys)) → AllByRecursion (λ k. nat_cmp x.0 k ≡ Less) (keys_of ys)
  back [] a = a
  back (z ∷ zs) a = back zs a.1

  both : (zs : Entries) → AllByRecursion (λ k. nat_cmp x.0 k ≡ Less) (keys_of zs) → AllByRecursion (λ y. AllByRecursion (λ k. nat_cmp k y.0 ≡ Less) (keys_of xs)) zs → AllByRecursion (λ y. AllByRecursion (λ k. nat_cmp k y.0 ≡ Less) (keys_of (x ∷ xs))) zs
  both [] a b = tt
  both (z ∷ zs) a b = ((a.0, b.0), both zs a.1 b.1)

-- ---- which numbers spots tell

abbrev pub OneEach : Entries → Type 0
OneEach es = (q : Path) → length (numbers_at q es) ≤ 1

any-below : (n : ℕ) (p : Path) (spots : List (Path × Spot)) → list_any (λ m. eqb m n) (numbers_below p spots) ≡ list_any (λ e. is_prefix p e.0 && eqb e.1.row n) spots
any-below n p spots = any_mapped (λ (e : Path × Spot). e.1.row) (λ m. eqb m n) (filter (λ e. is_prefix p e.0) spots) ∙ any_filtered (λ e. eqb e.1.row n) (λ e. is_prefix p e.0) spots

-- what a spot tells stands at its path
told_has : (n : ℕ) (q : Path) (s : Spot) (es : Entries) → numbers_of (Some s) ≡ numbers_at q es → eqb s.row n ≡ true → has n q es ≡ true
told_has n q s es t h =
    ap (list_any (λ m. eqb m n)) (sym t)
    ∙ list_any-append (λ m. eqb m n) (before_of s.before) (s.row ∷ [])
    ∙ or_right (list_any (λ m. eqb m n) (before_of s.before)) _ (or_left (eqb s.row n) false h)

-- each spot is that of its path
pub all_found : (places : Spots) → IsStrictlySortedBy path_cmp (keys_of places) → AllByRecursion (λ e. spot_at e.0 places ≡ Some e.1) places
all_found [] o = tt
all_found (x ∷ places) o = (
  ap (λ b. cond b (Some x.1) (spot_at x.0 places)) (sym (same_by_cmp x.0 x.0) ∙ path_itself x.0),
  later places (sorted_head path_cmp x.0 (keys_of places) o) (all_found places (sorted_tail path_cmp x.0 (keys_of places) o)),
) where
  apart : (y : Path) → path_cmp x.0 y ≡ Less → is_at (path_cmp y) x.0 ≡ false
  apart y l = ap is_eq (path_total.antisymm y x.0 ∙ ap ordering_reverse l)

  later : (ys : Spots) → AllByRecursion (λ k. path_cmp x.0 k ≡ Less) (keys_of ys) → AllByRecursion (λ e. spot_at e.0 places ≡ Some e.1) ys → AllByRecursion (λ e. spot_at e.0 (x ∷ places) ≡ Some e.1) ys
  later [] a b = tt
  later (y ∷ ys) a b = (ap (λ b. cond b (Some x.1) (spot_at y.0 places)) (apart y.0 a.0) ∙ b.0, later ys a.1 b.1)

-- a number that stands somewhere below the path, if it stands there
told_where : (n : ℕ) (p : Path) (es : Entries) (places : Spots) (R : Type 0) → IsStrictlySortedBy path_cmp (keys_of places) → Tells places es →
    ((y : Path) → is_prefix p y ≡ true → has n y es ≡ true → R) → list_any (λ m. eqb m n) (numbers_below p places) ≡ true → R
told_where n p es places R o tells f h =
    any_so (λ e. spot_at e.0 places ≡ Some e.1) (λ e. is_prefix p e.0 && eqb e.1.row n) R places (all_found places o)
    (λ e found k.
    let parts = and_parts (is_prefix p e.0) _ k in
    f e.0 parts.0 (told_has n e.0 e.1 es (ap numbers_of (sym found) ∙ tells e.0) parts.1)) (sym (any-below n p places) ∙ h)

-- the one number that a spot tells
only_one : (n : ℕ) (o : Option Spot) (numbers : List ℕ) → numbers_of o ≡ numbers → length numbers ≤ 1 → list_any (λ m. eqb m n) numbers ≡ true → (s : Spot) × (o ≡ Some s) × (eqb s.row n ≡ true)
only_one n None numbers t few h = absurd (true≢false (sym h ∙ ap (list_any (λ m. eqb m n)) (sym t)))
only_one n (Some s) numbers t few h = by s.before t where
  by : (b : Option ℕ) → before_of b ++ s.row ∷ [] ≡ numbers → (z : Spot) × (Some s ≡ Some z) × (eqb z.row n ≡ true)
  by None e = (
    s,
    refl,
    elim (or_cases (eqb s.row n) false (ap (list_any (λ m. eqb m n)) e ∙ h)) [
      | inl k ↦ k
      | inr k ↦ absurd (true≢false (sym k))
    ],
  )
  by (Some b) e = absurd (omega (arith, few, ap length e))

-- the number of a row stands below a path exactly where the row's path is
pub told_below : (p y : Path) (n : ℕ) (es : Entries) (places : Spots) → IsStrictlySortedBy nat_cmp (keys_of es) → IsStrictlySortedBy path_cmp (keys_of places) → Tells places es → OneEach es → has n y es ≡ true →
    list_any (λ m. eqb m n) (numbers_below p places) ≡ is_prefix p y
told_below p y n es places sorted o tells one h =
    both_ways _ _ (told_where n p es places (is_prefix p y ≡ true) o tells (λ z up k. ap (is_prefix p) (one_path n y z es sorted h k) ∙ up))
    (λ up. let it = only_one n (spot_at y places) (numbers_at y es) (tells y) (one y) h in
    any-below n p places ∙ any_looked (λ e. is_prefix p e.0 && eqb e.1.row n) y it.0 places it.1 (and_from (is_prefix p y) _ up it.2))

-- a number of no row stands nowhere
not_told : (p : Path) (n : ℕ) (es : Entries) (places : Spots) → IsStrictlySortedBy path_cmp (keys_of places) → Tells places es → AllByRecursion (λ k. nat_cmp k n ≡ Less) (keys_of es) → list_any (λ m. eqb m n) (numbers_below p places) ≡ false
not_told p n es places o tells low = false_from_ne_true _ (λ h. true≢false (told_where n p es places (true ≡ false) o tells (λ y up k. sym k ∙ none_before n y es low) h))

-- ---- rows without those that are covered

abbrev gone : List ℕ → ℕ × PlanRow → Bool
gone numbers e = list_any (λ n. eqb n e.0) numbers

-- the numbers are those of the rows whose paths pass the test
kept_values : (numbers : List ℕ) (f : Path → Bool) (es : Entries) → AllByRecursion (λ e. gone numbers e ≡ f (path_of e.1.action)) es →
    values_of (filter (λ e. not (gone numbers e)) es) ≡ filter (λ row. not (f (path_of row.action))) (values_of es)
kept_values numbers f es a =
    ap values_of (filter_alike (λ e. not (gone numbers e)) (λ e. not (f (path_of e.1.action))) es (all_then (λ e. gone numbers e ≡ f (path_of e.1.action)) (λ e. not (gone numbers e) ≡ not (f (path_of e.1.action))) (λ e h. ap not h) es a))
    ∙ filter_map_later (λ (e : ℕ × PlanRow). e.1) (λ row. not (f (path_of row.action))) es

-- the rows that are left where the numbers below a path go
pub after_taken : (p : Path) (numbers : List ℕ) (old : Entries) (places : Spots) → IsStrictlySortedBy nat_cmp (keys_of old) → IsStrictlySortedBy path_cmp (keys_of places) → Tells places old → OneEach old →
    numbers ≡ numbers_below p places → values_of (filter (λ e. not (gone numbers e)) old) ≡ filter (λ row. not (is_prefix p (path_of row.action))) (values_of old)
after_taken p numbers old places sorted o tells one is =
    kept_values numbers (is_prefix p) old
    (all_then (λ e. has e.0 (path_of e.1.action) old ≡ true) (λ e. gone numbers e ≡ is_prefix p (path_of e.1.action))
    (λ e h. ap (λ l. gone l e) is ∙ told_below p (path_of e.1.action) e.0 old places sorted o tells one h) old (all_have [] old))

any_alike : {A : Type 0} (f g : A → Bool) (xs : List A) → ((x : A) → f x ≡ g x) → list_any f xs ≡ list_any g xs
any_alike f g xs h = λ i. list_any (λ x. h x i) xs

-- the rows that are left where those that new ones cover go
pub after_covered : (rows : List PlanRow) (numbers : List ℕ) (old more : Entries) (places : Spots) → IsStrictlySortedBy nat_cmp (keys_of (old ++ more)) → IsStrictlySortedBy path_cmp (keys_of places) → Tells places old → OneEach old →
    ((n : ℕ) → list_any (λ m. eqb m n) numbers ≡ list_any (λ row. list_any (λ m. eqb m n) (numbers_below (path_of row.action) places)) rows) →
    values_of (filter (λ e. not (gone numbers e)) (old ++ more)) ≡ filter (is_left rows) (values_of old) ++ values_of more
after_covered rows numbers old more places sorted o tells one is =
    ap values_of (filter-append (λ e. not (gone numbers e)) old more)
    ∙ map-append (λ (e : ℕ × PlanRow). e.1) (filter (λ e. not (gone numbers e)) old) (filter (λ e. not (gone numbers e)) more)
    ∙ (λ i. kept_values numbers (λ y. list_any (λ l. is_prefix (path_of l.action) y) rows) old
    (all_then (λ e. has e.0 (path_of e.1.action) old ≡ true) (λ e. gone numbers e ≡ list_any (λ l. is_prefix (path_of l.action) (path_of e.1.action)) rows)
    (λ e h. is e.0 ∙ any_alike (λ row. list_any (λ m. eqb m e.0) (numbers_below (path_of row.action) places)) (λ l. is_prefix (path_of l.action) (path_of e.1.action)) rows (λ l. told_below (path_of l.action) (path_of e.1.action) e.0 old places (sorted_front old more sorted) o tells one h))
    old (all_have [] old)) i
    ++ values_of (filter_all (λ e. not (gone numbers e)) more
    (all_then (λ y. AllByRecursion (λ k. nat_cmp k y.0 ≡ Less) (keys_of old)) (λ e. not (gone numbers e) ≡ true)
    (λ e low. ap not (is e.0 ∙ any_nothing (λ row. list_any (λ m. eqb m e.0) (numbers_below (path_of row.action) places)) rows (each rows e low))) more (sorted_behind old more sorted)) i))
  where
    each : (ls : List PlanRow) (e : ℕ × PlanRow) → AllByRecursion (λ k. nat_cmp k e.0 ≡ Less) (keys_of old) → AllByRecursion (λ row. list_any (λ m. eqb m e.0) (numbers_below (path_of row.action) places) ≡ false) ls
    each [] e low = tt
    each (l ∷ ls) e low = (not_told (path_of l.action) e.0 old places o tells low, each ls e low)

-- ---- how many rows

nothing_at : (es : Entries) → ((q : Path) → [] ≡ numbers_at q es) → es ≡ []
nothing_at [] h = refl
nothing_at (e ∷ es) h = absurd (true≢false (sym (all_have [] (e ∷ es)).0 ∙ ap (list_any (λ m. eqb m e.0)) (sym (h (path_of e.1.action)))))

abbrev others : Path → Entries → Entries
others x es = filter (λ e. not (same_path x (path_of e.1.action))) es

none_of_others : (x : Path) (es : Entries) → numbers_at x (others x es) ≡ []
none_of_others x [] = refl
none_of_others x (e ∷ es) = by (at x e) refl (none_of_others x es) where
  by : (b : Bool) → at x e ≡ b → numbers_at x (others x es) ≡ [] → numbers_at x (cond (not b) (e ∷ others x es) (others x es)) ≡ []
  by true t h = h
  by false t h = ap (λ b. map (λ (f : ℕ × PlanRow). f.0) (cond b (e ∷ filter (at x) (others x es)) (filter (at x) (others x es)))) t ∙ h

same_of_others : (x q : Path) (es : Entries) → same_path x q ≡ false → numbers_at q (others x es) ≡ numbers_at q es
same_of_others x q [] apart = refl
same_of_others x q (e ∷ es) apart = by (at x e) refl (at q e) refl (same_of_others x q es apart) where
  by : (b : Bool) → at x e ≡ b → (c : Bool) → at q e ≡ c → numbers_at q (others x es) ≡ numbers_at q es →
      numbers_at q (cond (not b) (e ∷ others x es) (others x es)) ≡ map (λ (f : ℕ × PlanRow). f.0) (cond c (e ∷ filter (at q) es) (filter (at q) es))
  by true t true k h = absurd (true≢false (sym (path_itself x) ∙ ap (same_path x) (path_same x (path_of e.1.action) t ∙ sym (path_same q (path_of e.1.action) k)) ∙ apart))
  by true t false k h = h
  by false t c k h = ap (λ b. map (λ (f : ℕ × PlanRow). f.0) (cond b (e ∷ filter (at q) (others x es)) (filter (at q) (others x es)))) k ∙ more c h where
    more : (c : Bool) → numbers_at q (others x es) ≡ numbers_at q es → map (λ (f : ℕ × PlanRow). f.0) (cond c (e ∷ filter (at q) (others x es)) (filter (at q) (others x es))) ≡ map (λ (f : ℕ × PlanRow). f.0) (cond c (e ∷ filter (at q) es) (filter (at q) es))
    more true h = ap (λ l. e.0 ∷ l) h
    more false h = h

-- what a test of paths keeps of the rows at a path: all or none
at_one : (f : Path → Bool) (x : Path) (es : Entries) → length (filter (λ e. f (path_of e.1.action)) (filter (at x) es)) ≡ cond (f x) (length (numbers_at x es)) 0
at_one f x [] = nothing (f x) where
  nothing : (b : Bool) → length {A = ℕ × PlanRow} [] ≡ cond b 0 0
  nothing true = refl
  nothing false = refl
at_one f x (e ∷ es) = by (at x e) refl (f x) refl (at_one f x es) where
  F : Entries
  F = filter (at x) es

  by : (b : Bool) → at x e ≡ b → (c : Bool) → f x ≡ c → length (filter (λ e. f (path_of e.1.action)) F) ≡ cond (f x) (length (numbers_at x es)) 0 →
      length (filter (λ e. f (path_of e.1.action)) (cond b (e ∷ F) F)) ≡ cond c (length (map (λ (g : ℕ × PlanRow). g.0) (cond b (e ∷ F) F))) 0
  by true t true k h =
      ap (λ b. length (cond b (e ∷ filter (λ e. f (path_of e.1.action)) F) (filter (λ e. f (path_of e.1.action)) F))) (ap f (sym (path_same x (path_of e.1.action) t)) ∙ k)
      ∙ omega (arith, h, ap (λ b. cond b (length (numbers_at x es)) 0) k)
  by true t false k h =
      ap (λ b. length (cond b (e ∷ filter (λ e. f (path_of e.1.action)) F) (filter (λ e. f (path_of e.1.action)) F))) (ap f (sym (path_same x (path_of e.1.action) t)) ∙ k)
      ∙ h ∙ ap (λ b. cond b (length (numbers_at x es)) 0) k
  by false t c k h = h ∙ ap (λ b. cond b (length (numbers_at x es)) 0) k

one_told : (s : Spot) (numbers : List ℕ) → numbers_of (Some s) ≡ numbers → length numbers ≤ 1 → length numbers ≡ 1
one_told s numbers t few = by s.before t where
  by : (b : Option ℕ) → before_of b ++ s.row ∷ [] ≡ numbers → length numbers ≡ 1
  by None e = sym (ap length e)
  by (Some n) e = absurd (omega (arith, few, ap length e))

pub counted : (p : Path) (spots : List (Path × Spot)) (es : Entries) → IsStrictlySortedBy path_cmp (keys_of spots) → ((q : Path) → numbers_of (lookup (is_at (path_cmp q)) spots) ≡ numbers_at q es) → OneEach es →
    length (numbers_below p spots) ≡ length (filter (λ e. is_prefix p (path_of e.1.action)) es)
counted p [] es o tells one = sym (ap (λ l. length (filter (λ e. is_prefix p (path_of e.1.action)) l)) (nothing_at es tells))
counted p (e ∷ spots) es o tells one =
    head (is_prefix p x) refl
    ∙ ap (λ n. cond (is_prefix p x) 1 0 + n) (counted p spots (others x es) (sorted_tail path_cmp x (keys_of spots) o) (λ q. by q (same_path x q) refl) (λ q. few q (same_path x q) refl))
    ∙ (λ i. (sym (ap (λ n. cond (is_prefix p x) n 0) only) ∙ sym (at_one (is_prefix p) x es) ∙ ap length (filter_either_way P (at x) es)) i + ap length (filter_either_way P (λ f. not (at x f)) es) i)
    ∙ length-filter_both (at x) (λ f. not (at x f)) (λ f. refl) (filter P es)
  where
    x : Path
    x = e.0

    P : ℕ × PlanRow → Bool
    P f = is_prefix p (path_of f.1.action)

    here : numbers_of (Some e.1) ≡ numbers_at x es
    here = sym (ap (λ b. numbers_of (cond b (Some e.1) (lookup (is_at (path_cmp x)) spots))) (ap is_eq (tied_itself path_total x))) ∙ tells x

    only : length (numbers_at x es) ≡ 1
    only = one_told e.1 (numbers_at x es) here (one x)

    head : (b : Bool) → is_prefix p x ≡ b → length (numbers_below p (e ∷ spots)) ≡ cond b 1 0 + length (numbers_below p spots)
    head true h = ap (λ b. length (map (λ (f : Path × Spot). f.1.row) (cond b (e ∷ filter (λ f. is_prefix p f.0) spots) (filter (λ f. is_prefix p f.0) spots)))) h ∙ omega arith
    head false h = ap (λ b. length (map (λ (f : Path × Spot). f.1.row) (cond b (e ∷ filter (λ f. is_prefix p f.0) spots) (filter (λ f. is_prefix p f.0) spots)))) h ∙ omega arith

    behind : lookup (is_at (path_cmp x)) spots ≡ None
    behind = lookup-none (is_at (path_cmp x)) spots (none spots (sorted_head path_cmp x (keys_of spots) o)) where
      none : (zs : List (Path × Spot)) → AllByRecursion (λ k. path_cmp x k ≡ Less) (keys_of zs) → AllByRecursion (λ z. is_at (path_cmp x) z.0 ≡ false) zs
      none [] a = tt
      none (z ∷ zs) a = (ap is_eq a.0, none zs a.1)

    by : (q : Path) (b : Bool) → same_path x q ≡ b → numbers_of (lookup (is_at (path_cmp q)) spots) ≡ numbers_at q (others x es)
    by q true t = subst (λ (y : Path). numbers_of (lookup (is_at (path_cmp y)) spots) ≡ numbers_at y (others x es)) (path_same x q t) (ap numbers_of behind ∙ sym (none_of_others x es))
    by q false t =
        ap (λ b. numbers_of (cond b (Some e.1) (lookup (is_at (path_cmp q)) spots))) (sym (sym (same_by_cmp q x) ∙ flip (same_path q x) refl))
        ∙ tells q ∙ sym (same_of_others x q es t)
      where
        flip : (b : Bool) → same_path q x ≡ b → b ≡ false
        flip true h = absurd (true≢false (sym (path_itself x) ∙ ap (same_path x) (sym (path_same q x h)) ∙ t))
        flip false h = refl

    few : (q : Path) (b : Bool) → same_path x q ≡ b → length (numbers_at q (others x es)) ≤ 1
    few q true t = subst (λ (y : Path). length (numbers_at y (others x es)) ≤ 1) (path_same x q t) (omega (arith, ap length (none_of_others x es)))
    few q false t = omega (arith, ap length (same_of_others x q es t), one q)

-- how many rows have paths that pass a test
pub count_values : (f : Path → Bool) (es : Entries) → length (filter (λ e. f (path_of e.1.action)) es) ≡ length (filter (λ row. f (path_of row.action)) (values_of es))
count_values f es = sym (length-map (filter (λ e. f (path_of e.1.action)) es) (λ (e : ℕ × PlanRow). e.1)) ∙ ap length (filter_map_later (λ (e : ℕ × PlanRow). e.1) (λ row. f (path_of row.action)) es)

-- the spots count the rows at a path and below it
pub count_is : (p : Path) (es : Entries) (places : Spots) → IsStrictlySortedBy path_cmp (keys_of places) → IsStanding es places → length (numbers_below p places) ≡ length (filter (λ row. is_prefix p (path_of row.action)) (values_of es))
count_is p es places o standing = counted p places es o standing.tells (λ q. one_each q es standing.plan) ∙ count_values (is_prefix p) es

-- how many rows are left without those that pass a test
pub left_count : (f : PlanRow → Bool) (es : Entries) (rows : List PlanRow) (n m : ℕ) → values_of es ≡ rows → n ≡ length es → m ≡ length (filter f (values_of es)) → n - m ≡ length (filter (λ row. not (f row)) rows)
left_count f es rows n m is all some =
    omega (arith, all, some, length-map es (λ (e : ℕ × PlanRow). e.1), length-filter_both f (λ row. not (f row)) (λ row. refl) (values_of es))
    ∙ ap (λ l. length (filter (λ row. not (f row)) l)) is

pub count_fits : (f : PlanRow → Bool) (es : Entries) (n m : ℕ) → n ≡ length es → m ≡ length (filter f (values_of es)) → m ≤ n
count_fits f es n m all some = omega (arith, all, some, length-map es (λ (e : ℕ × PlanRow). e.1), length-filter_both f (λ row. not (f row)) (λ row. refl) (values_of es))

-- ---- the sum of what paths that are apart cover

pub none_covered : (rows : List PlanRow) → length (filter (λ row. false) rows) ≡ 0
none_covered [] = refl
none_covered (row ∷ rows) = none_covered rows

pub overlap-before : (xs : List Path) (x : Path) (ys : List Path) → overlap (xs ++ x ∷ ys) ≡ false → list_any (λ y. meet y x) xs ≡ false
overlap-before [] x ys h = refl
overlap-before (a ∷ xs) x ys h =
    let parts = or_parts (list_any (meet a) (xs ++ x ∷ ys)) _ h in
    let here = or_parts (list_any (meet a) xs) _ (sym (list_any-append (meet a) xs (x ∷ ys)) ∙ parts.0) in
    or_from (meet a x) _ (or_parts (meet a x) _ here.1).0 (overlap-before xs x ys parts.1)

apart_count : {A : Type 0} (f g : A → Bool) → ((x : A) → f x ≡ true → g x ≡ true → true ≡ false) → (xs : List A) → length (filter (λ x. f x || g x) xs) ≡ length (filter f xs) + length (filter g xs)
apart_count f g apart [] = omega arith
apart_count {A} f g apart (x ∷ xs) = by (f x) refl (g x) refl (apart_count f g apart xs) where
  by : (b : Bool) → f x ≡ b → (c : Bool) → g x ≡ c → length (filter (λ x. f x || g x) xs) ≡ length (filter f xs) + length (filter g xs) →
      length (cond (b || c) (x ∷ filter (λ x. f x || g x) xs) (filter (λ x. f x || g x) xs)) ≡ length (cond b (x ∷ filter f xs) (filter f xs)) + length (cond c (x ∷ filter g xs) (filter g xs))
  by true e true k h = absurd (true≢false (apart x e k))
  by true e false k h = omega (arith, h)
  by false e true k h = omega (arith, h)
  by false e false k h = h

-- one path more, which is apart from the ones before
pub count_more : {X : Type 0} (before : List (Path × X)) (p : Path × X) (after : List (Path × X)) (rows : List PlanRow) → overlap (map (λ q. q.0) (before ++ p ∷ after)) ≡ false →
    length (filter (λ row. list_any (λ q. is_prefix q.0 (path_of row.action)) (before ++ p ∷ [])) rows)
    ≡ length (filter (λ row. list_any (λ q. is_prefix q.0 (path_of row.action)) before) rows) + length (filter (λ row. is_prefix p.0 (path_of row.action)) rows)
count_more {X} before p after rows apart =
    ap length (filter_same_by rows)
    ∙ apart_count (λ row. list_any (λ q. is_prefix q.0 (path_of row.action)) before) (λ row. is_prefix p.0 (path_of row.action)) (λ row h k. both (path_of row.action) before clear h k) rows
  where
    clear : list_any (λ q. meet q.0 p.0) before ≡ false
    clear = sym (any_mapped (λ (q : Path × X). q.0) (λ y. meet y p.0) before) ∙ overlap-before (map (λ q. q.0) before) p.0 (map (λ q. q.0) after) (ap overlap (sym (map-append (λ (q : Path × X). q.0) before (p ∷ after))) ∙ apart)

    or_nothing : (b : Bool) → (b || false) ≡ b
    or_nothing true = refl
    or_nothing false = refl

    filter_same_by : (rs : List PlanRow) → filter (λ row. list_any (λ q. is_prefix q.0 (path_of row.action)) (before ++ p ∷ [])) rs ≡ filter (λ row. list_any (λ q. is_prefix q.0 (path_of row.action)) before || is_prefix p.0 (path_of row.action)) rs
    filter_same_by rs = λ i. filter (λ row. (list_any-append (λ q. is_prefix q.0 (path_of row.action)) before (p ∷ []) ∙ ap (λ b. list_any (λ q. is_prefix q.0 (path_of row.action)) before || b) (or_nothing (is_prefix p.0 (path_of row.action)))) i) rs

    both : (y : Path) (qs : List (Path × X)) → list_any (λ q. meet q.0 p.0) qs ≡ false → list_any (λ q. is_prefix q.0 y) qs ≡ true → is_prefix p.0 y ≡ true → true ≡ false
    both y [] c h k = sym h
    both y (q ∷ qs) c h k =
        let parts = or_parts (meet q.0 p.0) _ c in
        elim (or_cases (is_prefix q.0 y) _ h) [
          | inl e ↦ elim (above_one q.0 p.0 y e k) [
            | inl g ↦ sym (or_left (is_prefix q.0 p.0) _ g) ∙ parts.0
            | inr g ↦ sym (or_right (is_prefix q.0 p.0) _ g) ∙ parts.0
          ]
          | inr e ↦ both y qs parts.1 e k
        ]
