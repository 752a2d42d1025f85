-- Rows by their numbers.
use Rattle.std.proofs.Common.{refl, sym, ◌∙◌, ap, subst, ◌≡◌, ◌≤◌, ℕ, arith, List, [], ◌∷◌, ◌++◌, map, length, append_assoc, Bool, true, false, cond, ◌||◌, true≢false, filter, All, is_some, ◌⊎◌, inl, inr, eqb, Less, Greater, Equal, is_eq}
use Rattle.std.specs.List.{list_any, AllByRecursion}
use Rattle.std.specs.List.Sorted.{IsStrictlySortedBy}
use Rattle.std.specs.Map.{keys_of, values_of}
use Rattle.std.specs.Cmp.{nat_cmp_is, both_ways}
use Rattle.std.specs.Ordering.{nat_cmp}
use Rattle.std.proofs.lemmas.Bool.{or_cases, or_left, or_right, false_from_ne_true, eqb-true, eq-eqb, ne_eqb, cases_order}
use Rattle.std.proofs.lemmas.List.{map-append}
use Rattle.std.proofs.lemmas.List.Elements.{All-head, All-tail, filter-append}
use Rattle.std.proofs.lemmas.List.Folds.{list_any-append}
use Rattle.std.proofs.lemmas.Map.Keys.{sorted_head, sorted_tail}
use Rattle.pres_tree.specs.Paths.{Path, same_path, is_prefix}
use Rattle.pres_tree.proofs.PathOrder.{path_same, path_itself}
use Rattle.pres_plan.specs.declared.row.PlanRow.{PlanRow}
use Rattle.pres_plan.specs.Plans.{path_of, covers, IsPlan}
use Rattle.pres_plan.specs.Standing.{Entries, numbers_at, stands}
use Rattle.pres_write.proofs.Overlaps.{below-itself}
use Rattle.pres_plan.proofs.Left.{Lasts, plan_lasts}

-- ---- lists

module _ {A : Type 0} where
  -- a test of what a function gives may come before the function
  pub filter_map_later : {B : Type 0} (f : A → B) (q : B → Bool) (xs : List A) → map f (filter (λ x. q (f x)) xs) ≡ filter q (map f xs)
  filter_map_later f q [] = refl
  filter_map_later f q (x ∷ xs) = elim (q (f x)) as (λ b. map f (cond b (x ∷ filter (λ y. q (f y)) xs) (filter (λ y. q (f y)) xs)) ≡ cond b (f x ∷ filter q (map f xs)) (filter q (map f xs))) [
    | true ↦ ap (λ l. f x ∷ l) (filter_map_later f q xs)
    | false ↦ filter_map_later f q xs
  ]

  -- two filters may change places
  pub filter_either_way : (p q : A → Bool) (xs : List A) → filter p (filter q xs) ≡ filter q (filter p xs)
  filter_either_way p q [] = refl
  filter_either_way p q (x ∷ xs) = by (p x) refl (q x) refl (filter_either_way p q xs) where
    by : (b : Bool) → p x ≡ b → (c : Bool) → q x ≡ c → filter p (filter q xs) ≡ filter q (filter p xs) →
        filter p (cond c (x ∷ filter q xs) (filter q xs)) ≡ filter q (cond b (x ∷ filter p xs) (filter p xs))
    by true e true f h =
        ap (λ b. cond b (x ∷ filter p (filter q xs)) (filter p (filter q xs))) e
        ∙ ap (λ l. x ∷ l) h
        ∙ sym (ap (λ b. cond b (x ∷ filter q (filter p xs)) (filter q (filter p xs))) f)
    by true e false f h = h ∙ sym (ap (λ b. cond b (x ∷ filter q (filter p xs)) (filter q (filter p xs))) f)
    by false e true f h = ap (λ b. cond b (x ∷ filter p (filter q xs)) (filter p (filter q xs))) e ∙ h
    by false e false f h = h

  -- a filter that all pass
  pub filter_all : (p : A → Bool) (xs : List A) → AllByRecursion (λ x. p x ≡ true) xs → filter p xs ≡ xs
  filter_all p [] a = refl
  filter_all p (x ∷ xs) a = ap (λ b. cond b (x ∷ filter p xs) (filter p xs)) a.0 ∙ ap (λ l. x ∷ l) (filter_all p xs a.1)

  -- a filter that none passes
  pub filter_nothing : (p : A → Bool) (xs : List A) → AllByRecursion (λ x. p x ≡ false) xs → filter p xs ≡ []
  filter_nothing p [] a = refl
  filter_nothing p (x ∷ xs) a = ap (λ b. cond b (x ∷ filter p xs) (filter p xs)) a.0 ∙ filter_nothing p xs a.1

  -- two tests that agree on each of the list
  pub filter_alike : (p q : A → Bool) (xs : List A) → AllByRecursion (λ x. p x ≡ q x) xs → filter p xs ≡ filter q xs
  filter_alike p q [] a = refl
  filter_alike p q (x ∷ xs) a = λ i. cond (a.0 i) (x ∷ filter_alike p q xs a.1 i) (filter_alike p q xs a.1 i)

  pub all_then : (P Q : A → Type 0) → ((x : A) → P x → Q x) → (xs : List A) → AllByRecursion P xs → AllByRecursion Q xs
  all_then P Q f [] a = tt
  all_then P Q f (x ∷ xs) a = (f x a.0, all_then P Q f xs a.1)

  pub by_recursion : (P : A → Type 0) (xs : List A) → All P xs → AllByRecursion P xs
  by_recursion P [] h = tt
  by_recursion P (x ∷ xs) h = (All-head P x xs h, by_recursion P xs (All-tail P x xs h))

  pub all_mapped : {B : Type 0} (f : A → B) (P : B → Type 0) (xs : List A) → AllByRecursion P (map f xs) → AllByRecursion (λ x. P (f x)) xs
  all_mapped f P [] a = tt
  all_mapped f P (x ∷ xs) a = (a.0, all_mapped f P xs a.1)

  pub any_mapped : {B : Type 0} (f : A → B) (p : B → Bool) (xs : List A) → list_any p (map f xs) ≡ list_any (λ x. p (f x)) xs
  any_mapped f p [] = refl
  any_mapped f p (x ∷ xs) = ap (λ b. p (f x) || b) (any_mapped f p xs)

  pub any_nothing : (p : A → Bool) (xs : List A) → AllByRecursion (λ x. p x ≡ false) xs → list_any p xs ≡ false
  any_nothing p [] a = refl
  any_nothing p (x ∷ xs) a = λ i. a.0 i || any_nothing p xs a.1 i

  -- what follows from each that passes follows from one that does
  pub any_so : (P : A → Type 0) (p : A → Bool) (R : Type 0) (xs : List A) → AllByRecursion P xs → ((x : A) → P x → p x ≡ true → R) → list_any p xs ≡ true → R
  any_so P p R [] a f h = absurd (true≢false (sym h))
  any_so P p R (x ∷ xs) a f h = elim (or_cases (p x) (list_any p xs) h) [
    | inl e ↦ f x a.0 e
    | inr e ↦ any_so P p R xs a.1 f e
  ]

-- ---- numbers

pub same_number : (n k : ℕ) → is_eq (nat_cmp n k) ≡ eqb n k
same_number n k = elim (cases_order n k) [
  | inl e ↦ ap is_eq (sym (nat_cmp_is n k Equal e)) ∙ sym (eq-eqb n k e)
  | inr o ↦ elim o [
    | inl l ↦ ap is_eq (sym (nat_cmp_is n k Less l)) ∙ sym (ne_eqb n k (λ e. absurd (omega (arith, l, e))))
    | inr g ↦ ap is_eq (sym (nat_cmp_is n k Greater g)) ∙ sym (ne_eqb n k (λ e. absurd (omega (arith, g, e))))
  ]
]

less_differs : (n k : ℕ) → nat_cmp n k ≡ Less → eqb n k ≡ false
less_differs n k h = sym (same_number n k) ∙ ap is_eq h

pub eqb_flip : (n k : ℕ) → eqb n k ≡ eqb k n
eqb_flip n k = both_ways _ _ (λ h. eq-eqb k n (sym (eqb-true n k h))) (λ h. eq-eqb n k (sym (eqb-true k n h)))

-- ---- the numbers at a path

abbrev pub at : Path → ℕ × PlanRow → Bool
at q e = same_path q (path_of e.1.action)

-- a row with the number stands at the path
abbrev pub has : ℕ → Path → Entries → Bool
has n q es = list_any (λ m. eqb m n) (numbers_at q es)

pub numbers_at-append : (q : Path) (xs ys : Entries) → numbers_at q (xs ++ ys) ≡ numbers_at q xs ++ numbers_at q ys
numbers_at-append q xs ys = ap (map (λ e. e.0)) (filter-append (at q) xs ys) ∙ map-append (λ e. e.0) (filter (at q) xs) (filter (at q) ys)

pub numbers_at-one : (q : Path) (n : ℕ) (row : PlanRow) → numbers_at q ((n, row) ∷ []) ≡ cond (same_path q (path_of row.action)) (n ∷ []) []
numbers_at-one q n row = elim (same_path q (path_of row.action)) as (λ b. map (λ (e : ℕ × PlanRow). e.0) (cond b ((n, row) ∷ []) []) ≡ cond b (n ∷ []) []) [
  | true ↦ refl
  | false ↦ refl
]

pub numbers_at-kept : (p : ℕ → Bool) (q : Path) (es : Entries) → numbers_at q (filter (λ e. p e.0) es) ≡ filter p (numbers_at q es)
numbers_at-kept p q es = ap (map (λ e. e.0)) (filter_either_way (at q) (λ e. p e.0) es) ∙ filter_map_later (λ (e : ℕ × PlanRow). e.0) p (filter (at q) es)

-- a number is no number of a row after it
none_later : (n : ℕ) (q : Path) (es : Entries) → AllByRecursion (λ k. nat_cmp n k ≡ Less) (keys_of es) → has n q es ≡ false
none_later n q [] a = refl
none_later n q (e ∷ es) a = elim (at q e) as (λ b. list_any (λ m. eqb m n) (map (λ (f : ℕ × PlanRow). f.0) (cond b (e ∷ filter (at q) es) (filter (at q) es))) ≡ false) [
  | true ↦ λ i. (eqb_flip e.0 n ∙ less_differs n e.0 a.0) i || none_later n q es a.1 i
  | false ↦ none_later n q es a.1
]

-- nor of one before it
pub none_before : (n : ℕ) (q : Path) (es : Entries) → AllByRecursion (λ k. nat_cmp k n ≡ Less) (keys_of es) → has n q es ≡ false
none_before n q [] a = refl
none_before n q (e ∷ es) a = elim (at q e) as (λ b. list_any (λ m. eqb m n) (map (λ (f : ℕ × PlanRow). f.0) (cond b (e ∷ filter (at q) es) (filter (at q) es))) ≡ false) [
  | true ↦ λ i. less_differs e.0 n a.0 i || none_before n q es a.1 i
  | false ↦ none_before n q es a.1
]

has_first : (n : ℕ) (q : Path) (e : ℕ × PlanRow) (es : Entries) → has n q (e ∷ es) ≡ true → ((at q e ≡ true) × (eqb e.0 n ≡ true)) ⊎ (has n q es ≡ true)
has_first n q e es = elim (at q e) as (λ b. list_any (λ m. eqb m n) (map (λ (f : ℕ × PlanRow). f.0) (cond b (e ∷ filter (at q) es) (filter (at q) es))) ≡ true → ((b ≡ true) × (eqb e.0 n ≡ true)) ⊎ (has n q es ≡ true)) [
  | true ↦ λ h. elim (or_cases (eqb e.0 n) _ h) [
    | inl k ↦ inl (refl, k)
    | inr k ↦ inr k
  ]
  | false ↦ λ h. inr h
]

-- a row of a number stands at one path
pub one_path : (n : ℕ) (q y : Path) (es : Entries) → IsStrictlySortedBy nat_cmp (keys_of es) → has n q es ≡ true → has n y es ≡ true → q ≡ y
one_path n q y [] o h k = absurd (true≢false (sym h))
one_path n q y (e ∷ es) o h k = by (has_first n q e es h) (has_first n y e es k) (one_path n q y es (sorted_tail nat_cmp e.0 (keys_of es) o)) where
  later : (z : Path) → eqb e.0 n ≡ true → has n z es ≡ true → true ≡ false
  later z f g = sym g ∙ ap (λ m. has m z es) (sym (eqb-true e.0 n f)) ∙ none_later e.0 z es (sorted_head nat_cmp e.0 (keys_of es) o)

  by : ((at q e ≡ true) × (eqb e.0 n ≡ true)) ⊎ (has n q es ≡ true) → ((at y e ≡ true) × (eqb e.0 n ≡ true)) ⊎ (has n y es ≡ true) → (has n q es ≡ true → has n y es ≡ true → q ≡ y) → q ≡ y
  by (inl f) (inl g) rest = path_same q (path_of e.1.action) f.0 ∙ sym (path_same y (path_of e.1.action) g.0)
  by (inl f) (inr g) rest = absurd (true≢false (later y f.1 g))
  by (inr f) (inl g) rest = absurd (true≢false (later q g.1 f))
  by (inr f) (inr g) rest = rest f g

pub has-append : (n : ℕ) (q : Path) (xs ys : Entries) → has n q (xs ++ ys) ≡ (has n q xs || has n q ys)
has-append n q xs ys = ap (list_any (λ m. eqb m n)) (numbers_at-append q xs ys) ∙ list_any-append (λ m. eqb m n) (numbers_at q xs) (numbers_at q ys)

-- the number of each row stands at its path
pub all_have : (pre es : Entries) → AllByRecursion (λ e. has e.0 (path_of e.1.action) (pre ++ es) ≡ true) es
all_have pre [] = tt
all_have pre (e ∷ es) = (
  has-append e.0 p pre (e ∷ es) ∙ or_right (has e.0 p pre) _ here,
  subst (λ (l : Entries). AllByRecursion (λ f. has f.0 (path_of f.1.action) l ≡ true) es) (append_assoc pre (e ∷ []) es) (all_have (pre ++ e ∷ []) es),
) where
  p : Path
  p = path_of e.1.action

  here : has e.0 p (e ∷ es) ≡ true
  here = ap (λ b. list_any (λ m. eqb m e.0) (map (λ (f : ℕ × PlanRow). f.0) (cond b (e ∷ filter (at p) es) (filter (at p) es)))) (path_itself p) ∙ or_left (eqb e.0 e.0) _ (eq-eqb e.0 e.0 refl)

-- ---- rows that stand at a path

pub stands-entries : (q : Path) (es : Entries) → stands q (values_of es) ≡ list_any (at q) es
stands-entries q es = any_mapped (λ (e : ℕ × PlanRow). e.1) (λ row. same_path q (path_of row.action)) es

-- where no number stands there is no row
pub none_stands : (q : Path) (es : Entries) → numbers_at q es ≡ [] → stands q (values_of es) ≡ false
none_stands q [] = λ h. refl
none_stands q (e ∷ es) = elim (at q e) as (λ b. map (λ (f : ℕ × PlanRow). f.0) (cond b (e ∷ filter (at q) es) (filter (at q) es)) ≡ [] → (b || stands q (values_of es)) ≡ false) [
  | true ↦ λ h. absurd cc
  | false ↦ none_stands q es
]

pub no_numbers : (q : Path) (es : Entries) → stands q (values_of es) ≡ false → numbers_at q es ≡ []
no_numbers q [] = λ h. refl
no_numbers q (e ∷ es) = elim (at q e) as (λ b. (b || stands q (values_of es)) ≡ false → map (λ (f : ℕ × PlanRow). f.0) (cond b (e ∷ filter (at q) es) (filter (at q) es)) ≡ []) [
  | true ↦ λ h. absurd (true≢false h)
  | false ↦ no_numbers q es
]

pub itself : (p : Path) → is_prefix p p ≡ true
itself p = ap is_some (below-itself p)

-- at most one row stands at each path of a plan
one_lasts : (q : Path) (es : Entries) → Lasts (values_of es) → length (numbers_at q es) ≤ 1
one_lasts q [] h = omega arith
one_lasts q (e ∷ es) h = by (at q e) refl (one_lasts q es h.1) where
  covered : at q e ≡ true → stands q (values_of es) ≡ true → list_any (λ l. covers l e.1) (values_of es) ≡ true
  covered t = any_so_far (values_of es) where
    any_so_far : (rows : List PlanRow) → stands q rows ≡ true → list_any (λ l. covers l e.1) rows ≡ true
    any_so_far [] k = absurd (true≢false (sym k))
    any_so_far (r ∷ rows) k = elim (or_cases (same_path q (path_of r.action)) (stands q rows) k) [
      | inl g ↦ or_left (covers r e.1) _ (ap (λ p. is_prefix p (path_of e.1.action)) (sym (path_same q (path_of r.action) g) ∙ path_same q (path_of e.1.action) t) ∙ itself (path_of e.1.action))
      | inr g ↦ or_right (covers r e.1) _ (any_so_far rows g)
    ]

  by : (b : Bool) → at q e ≡ b → length (numbers_at q es) ≤ 1 → length (map (λ (f : ℕ × PlanRow). f.0) (cond b (e ∷ filter (at q) es) (filter (at q) es))) ≤ 1
  by true t rest =
      let none = no_numbers q es (false_from_ne_true (stands q (values_of es)) (λ k. true≢false (sym (covered t k) ∙ h.0))) in
      omega (arith, ap length none)
  by false t rest = rest

pub one_each : (q : Path) (es : Entries) → IsPlan (values_of es) → length (numbers_at q es) ≤ 1
one_each q es plan = one_lasts q es (plan_lasts (values_of es) plan.whole)
