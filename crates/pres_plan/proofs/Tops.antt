-- The shortest paths at which rows stand.
use Rattle.std.proofs.Common.{refl, sym, ◌∙◌, ap, subst, ◌≡◌, ◌<◌, ◌≤◌, ℕ, zero, suc, arith, List, [], ◌∷◌, ◌++◌, map, length, take, append_assoc, length-take, Bool, true, false, not, cond, ◌||◌, ◌&&◌, true≢false, filter, Option, Some, None, is_some, IfSome, IsSome, ◌⊎◌, inl, inr, Less, Greater, Equal, is_eq, is_gt, is_lt, eqb}
use Rattle.std.specs.List.{list_any, AllByRecursion}
use Rattle.std.specs.Map.{values_of}
use Rattle.std.specs.Cmp.{both_ways, tied_itself}
use Rattle.std.specs.Cmp.Lexicographic.{nat_list_cmp_total, pointwise, texts_ties}
use Rattle.std.specs.Ordering.{ordering_then, ordering_reverse}
use Rattle.std.specs.declared.cmp.Ordering.{Ordering}
use Rattle.std.proofs.lemmas.Bool.{or_cases, or_left, or_right, and_parts, and_from, or_parts, false_from_ne_true, true_from_ne_false, not-true, cases_lt, cases_Bool}
use Rattle.std.proofs.lemmas.List.{take_all, take-take}
use Rattle.std.proofs.lemmas.List.Folds.{list_any-append}
use Rattle.std.proofs.lemmas.Map.Views.{any-filter_same}
use Rattle.pres_tree.specs.Keys.{key_cmp, same_key}
use Rattle.pres_tree.specs.Paths.{Path, path_cmp, same_path, below, is_prefix, meet, overlap}
use Rattle.pres_tree.specs.Falls.{path_total, path_same as path_apart}
use Rattle.pres_tree.proofs.Values.{cons_prefix}
use Rattle.pres_tree.proofs.PathOrder.{path_same, path_itself}
use Rattle.pres_write.proofs.Overlaps.{between}
use Rattle.pres_plan.specs.declared.row.PlanRow.{PlanRow}
use Rattle.pres_plan.specs.declared.places.Spot.{Spot}
use Rattle.pres_plan.specs.Places.{Spots, spot_at, IsBefore}
use Rattle.pres_plan.specs.Plans.{path_of, is_put, is_left, lasting, puts_above, matters, IsPlan}
use Rattle.pres_plan.specs.Standing.{Entries, numbers_at, numbers_of, before_of, stands, above, Tells, IsTop, AreTops}
use Rattle.pres_plan.proofs.Left.{any_implies, prefix_trans, lasting-plan}
use Rattle.pres_plan.proofs.Numbers.{any_so, itself, none_stands, no_numbers}
use Rattle.pres_plan.proofs.Cancels.{passes, any_either, lift}

-- ---- paths

-- a path above another one is its first keys
pub first_keys : (q p : Path) → is_prefix q p ≡ true → (q ≡ take (length q) p) × (length q ≤ length p)
first_keys [] p h = (refl, omega arith)
first_keys (k ∷ q) [] h = absurd (true≢false (sym h))
first_keys (k ∷ q) (l ∷ p) h =
    let each = cons_prefix k l q p h in
    let rest = first_keys q p each.1 in
    (λ i. each.0 i ∷ rest.0 i, omega (arith, rest.1))

take_above : (n : ℕ) (p : Path) → is_prefix (take n p) p ≡ true
take_above zero p = refl
take_above (suc n) [] = refl
take_above (suc n) (k ∷ p) = ap (λ b. is_some (cond b (below (take n p) p) None)) (ap is_eq (tied_itself nat_list_cmp_total k)) ∙ take_above n p

-- a path that goes on with another one does not come before it
pub prefix_le : (p q : Path) → is_prefix p q ≡ true → is_gt (path_cmp p q) ≡ false
prefix_le [] [] h = refl
prefix_le [] (l ∷ q) h = refl
prefix_le (k ∷ p) [] h = absurd (true≢false (sym h))
prefix_le (k ∷ p) (l ∷ q) h =
    elim (same_key k l) as (λ b. same_key k l ≡ b → is_some (cond b (below p q) None) ≡ true → is_gt (ordering_then (key_cmp k l) (path_cmp p q)) ≡ false) [
      | true ↦ λ e g. ap (λ o. is_gt (ordering_then o (path_cmp p q))) (tie (key_cmp k l) e) ∙ prefix_le p q g
      | false ↦ λ e g. absurd (true≢false (sym g))
    ] refl h
  where
    tie : (o : Ordering) → is_eq o ≡ true → o ≡ Equal
    tie Less h = absurd (true≢false (sym h))
    tie Equal h = refl
    tie Greater h = absurd (true≢false (sym h))

prefix_less : (y p : Path) → is_prefix y p ≡ true → is_prefix p y ≡ false → path_cmp y p ≡ Less
prefix_less y p up strict = by (path_cmp y p) refl (prefix_le y p up) where
  by : (o : Ordering) → path_cmp y p ≡ o → is_gt o ≡ false → o ≡ Less
  by Less e h = refl
  by Equal e h = absurd (true≢false (sym (itself p) ∙ ap (is_prefix p) (sym (path_apart y p e)) ∙ strict))
  by Greater e h = absurd (true≢false h)

shorter : (y p : Path) → is_prefix y p ≡ true → is_prefix p y ≡ false → length y < length p
shorter y p up strict = elim (cases_lt (length y) (length p)) [
  | inl h ↦ h
  | inr h ↦ absurd (true≢false (sym (itself p) ∙ ap (is_prefix p) (sym ((first_keys y p up).0 ∙ take_all (length y) p h)) ∙ strict))
]

not_below : (m : ℕ) (p : Path) → m < length p → is_prefix p (take m p) ≡ false
not_below m p h = false_from_ne_true _ (λ k. let long = (first_keys p (take m p) k).1 in absurd (omega (arith, h, long, length-take m p)))

within : (m : ℕ) (y x : Path) → is_prefix y x ≡ true → m ≤ length y → is_prefix (take m x) y ≡ true
within m y x up few =
    ap (λ z. is_prefix z y) (sym (take-take m (length y) x few) ∙ ap (take m) (sym (first_keys y x up).0)) ∙ take_above m y

-- the test of a path's first keys
pub starts-prefix : (n p : Path) → pointwise (pointwise eqb) n (take (length n) p) ≡ is_prefix n p
starts-prefix [] p = refl
starts-prefix (k ∷ n) [] = refl
starts-prefix (k ∷ n) (l ∷ p) = by (same_key k l) (texts_ties k l) (starts-prefix n p) where
  by : (b : Bool) → pointwise eqb k l ≡ b → pointwise (pointwise eqb) n (take (length n) p) ≡ is_prefix n p → (pointwise eqb k l && pointwise (pointwise eqb) n (take (length n) p)) ≡ is_some (cond b (below n p) None)
  by true e h = ap (λ b. b && pointwise (pointwise eqb) n (take (length n) p)) e ∙ h
  by false e h = ap (λ b. b && pointwise (pointwise eqb) n (take (length n) p)) e

-- ---- rows that stand

stands_then : (f : Path → Bool) (y : Path) (rows : List PlanRow) → stands y rows ≡ true → f y ≡ true → list_any (λ r. f (path_of r.action)) rows ≡ true
stands_then f y rows h e =
    any_implies (λ r. same_path y (path_of r.action)) (λ r. f (path_of r.action)) rows (λ r k. ap f (sym (path_same y (path_of r.action) k)) ∙ e) h

all_stand : (pre rows : List PlanRow) → AllByRecursion (λ r. stands (path_of r.action) (pre ++ rows) ≡ true) rows
all_stand pre [] = tt
all_stand pre (r ∷ rows) = (
  list_any-append (λ s. same_path (path_of r.action) (path_of s.action)) pre (r ∷ rows) ∙ or_right (stands (path_of r.action) pre) _ (or_left (same_path (path_of r.action) (path_of r.action)) _ (path_itself (path_of r.action))),
  subst (λ (l : List PlanRow). AllByRecursion (λ s. stands (path_of s.action) l ≡ true) rows) (append_assoc pre (r ∷ []) rows) (all_stand (pre ++ r ∷ []) rows),
)

-- a row that passes a test of its path stands somewhere
pub stands_so : (f : Path → Bool) (R : Type 0) (rows : List PlanRow) → ((y : Path) → stands y rows ≡ true → f y ≡ true → R) → list_any (λ r. f (path_of r.action)) rows ≡ true → R
stands_so f R rows g h = any_so (λ r. stands (path_of r.action) rows ≡ true) (λ r. f (path_of r.action)) R rows (all_stand [] rows) (λ r k e. g (path_of r.action) k e) h

-- in a plan a put stands above a path exactly where a row does
pub put_above : (p : Path) (rows : List PlanRow) → IsPlan rows → list_any (puts_above p) rows ≡ above p rows
put_above p rows plan =
    both_ways _ _ (any_implies (puts_above p) (λ r. is_prefix (path_of r.action) p && not (is_prefix p (path_of r.action))) rows (λ r e. (and_parts (is_put r.action) _ e).1))
    (λ h. whole (any_either (λ r. matters rows r ≡ true) (λ r. is_prefix (path_of r.action) p && not (is_prefix p (path_of r.action))) (puts_above p) (list_any (puts_above p) rows) rows matter
    (λ r m e. by r (or_cases (is_put r.action) _ m) e) h))
  where
    lasts : lasting rows ≡ rows
    lasts = ap lasting (sym plan.whole) ∙ lasting-plan rows ∙ plan.whole

    matter : AllByRecursion (λ r. matters rows r ≡ true) rows
    matter = subst (AllByRecursion (λ r. matters rows r ≡ true)) (sym (ap (λ l. filter (matters l) l) lasts) ∙ plan.whole) (passes (matters rows) rows)

    whole : (list_any (puts_above p) rows || list_any (puts_above p) rows) ≡ true → list_any (puts_above p) rows ≡ true
    whole h = elim (or_cases (list_any (puts_above p) rows) (list_any (puts_above p) rows) h) [
      | inl k ↦ k
      | inr k ↦ k
    ]

    by : (r : PlanRow) → (is_put r.action ≡ true) ⊎ (list_any (puts_above (path_of r.action)) rows ≡ true) → (is_prefix (path_of r.action) p && not (is_prefix p (path_of r.action))) ≡ true → (puts_above p r || list_any (puts_above p) rows) ≡ true
    by r (inl k) e = or_left (puts_above p r) _ (and_from (is_put r.action) _ k e)
    by r (inr k) e =
        or_right (puts_above p r) _
        (any_implies (puts_above (path_of r.action)) (puts_above p) rows (λ b. lift (path_of r.action) p b (and_parts (is_prefix (path_of r.action) p) _ e).0) k)

-- ---- spots

told : (y : Path) (es : Entries) (o : Option Spot) → numbers_of o ≡ numbers_at y es → stands y (values_of es) ≡ true → IsSome o
told y es None h k = absurd (true≢false (sym k ∙ none_stands y es (sym h)))
told y es (Some s) h k = refl

no_empty : (s : Spot) → numbers_of (Some s) ≡ [] → true ≡ false
no_empty s = by s.before where
  by : (b : Option ℕ) → before_of b ++ s.row ∷ [] ≡ [] → true ≡ false
  by None h = absurd cc
  by (Some n) h = absurd cc

pub told_back : (y : Path) (es : Entries) (s : Spot) → numbers_of (Some s) ≡ numbers_at y es → stands y (values_of es) ≡ true
told_back y es s h = true_from_ne_false _ (λ k. true≢false (no_empty s (h ∙ no_numbers y es k)))

-- ---- the spot before a path

pub top_is : (rows : List PlanRow) (places : Spots) (x : Path) (spot : Spot) → spot_at x places ≡ Some spot → AreTops rows places → IsTop rows x spot.top
top_is rows places x spot found tops = subst (λ (o : Option Spot). IfSome o (λ s. IsTop rows x s.top)) found (tops x)

-- a path above the path at which a row stands is above the last one before it too
near : (es : Entries) (places : Spots) (p x : Path) (spot : Spot) → IsBefore places p x spot → Tells places es →
    (y : Path) → is_prefix y p ≡ true → is_prefix p y ≡ false → stands y (values_of es) ≡ true → is_prefix y x ≡ true
near es places p x spot b tells y up strict there = by (path_cmp x y) refl (b.last y (prefix_less y p up strict) (told y es (spot_at y places) (tells y) there)) where
  by : (o : Ordering) → path_cmp x y ≡ o → is_lt o ≡ false → is_prefix y x ≡ true
  by Less e h = absurd (true≢false h)
  by Equal e h = ap (is_prefix y) (path_apart x y e) ∙ itself y
  by Greater e h = between y x p (path_total.antisymm y x ∙ ap ordering_reverse e) b.less up

above_at : (p y : Path) (rows : List PlanRow) → stands y rows ≡ true → is_prefix y p ≡ true → is_prefix p y ≡ false → above p rows ≡ true
above_at p y rows there up strict = stands_then (λ z. is_prefix z p && not (is_prefix p z)) y rows there (and_from (is_prefix y p) _ up (ap not strict))

-- where no row stands above the path its own keys are the top
pub own_top : (p : Path) (rows : List PlanRow) → above p rows ≡ false → IsTop rows p (length p)
own_top p rows none = record {
  short = omega arith;
  there = λ h. absurd (omega (arith, h));
  first = λ y up there. elim (cases_Bool (is_prefix p y)) [
    | inl k ↦ (first_keys p y k).1
    | inr k ↦ absurd (true≢false (sym (above_at p y rows there up k) ∙ none))
  ];
}

pub top_found : (es : Entries) (places : Spots) (p x : Path) (spot : Spot) → IsBefore places p x spot → Tells places es → AreTops (values_of es) places →
    spot.top < length p → is_prefix (take spot.top x) p ≡ true → (true ≡ above p (values_of es)) × IsTop (values_of es) p spot.top
top_found es places p x spot b tells tops low starts = (
  sym (above_at p start rows standing starts (ap (is_prefix p) is ∙ not_below t p low)),
  record {
    short = omega (arith, low);
    there = λ h. ap (λ y. stands y rows) (sym is) ∙ standing;
    first = λ y up there. elim (cases_Bool (is_prefix p y)) [
      | inl k ↦ omega (arith, low, (first_keys p y k).1)
      | inr k ↦ top.first y (near es places p x spot b tells y up k there) there
    ];
  },
) where
  rows : List PlanRow
  rows = values_of es

  t : ℕ
  t = spot.top

  start : Path
  start = take t x

  top : IsTop rows x t
  top = subst (λ (o : Option Spot). IfSome o (λ s. IsTop rows x s.top)) b.found (tops x)

  is : start ≡ take t p
  is = (first_keys start p starts).0 ∙ ap (λ n. take n p) (let short = top.short in omega (arith, short, length-take t x))

  standing : stands start rows ≡ true
  standing = elim (cases_lt t (length x)) [
    | inl h ↦ top.there h
    | inr h ↦ ap (λ y. stands y rows) (take_all t x h) ∙ told_back x es spot (ap numbers_of (sym b.found) ∙ tells x)
  ]

pub none_found : (es : Entries) (places : Spots) (p x : Path) (spot : Spot) → IsBefore places p x spot → Tells places es → AreTops (values_of es) places →
    (spot.top < length p → is_prefix (take spot.top x) p ≡ true → true ≡ false) → above p (values_of es) ≡ false
none_found es places p x spot b tells tops other = false_from_ne_true _ (λ h. true≢false (stands_so (λ z. is_prefix z p && not (is_prefix p z)) (true ≡ false) (values_of es) (λ y there e.
    let strict = and_parts (is_prefix y p) _ e in
    let apart : is_prefix p y ≡ false = not-true _ strict.1 in
    let up = near es places p x spot b tells y strict.0 apart there in
    let low = (subst (λ (o : Option Spot). IfSome o (λ s. IsTop (values_of es) x s.top)) b.found (tops x)).first y up there in
    let less = shorter y p strict.0 apart in
    other (omega (arith, low, less)) (prefix_trans (take spot.top x) y p (within spot.top y x up low) strict.0)) h))

pub none_before : (es : Entries) (places : Spots) (p : Path) → Tells places es → ((q : Path) → path_cmp q p ≡ Less → spot_at q places ≡ None) → above p (values_of es) ≡ false
none_before es places p tells none = false_from_ne_true _ (λ h. true≢false (stands_so (λ z. is_prefix z p && not (is_prefix p z)) (true ≡ false) (values_of es) (λ y there e.
    let strict = and_parts (is_prefix y p) _ e in
    let gone = none y (prefix_less y p strict.0 (not-true _ strict.1)) in
    sym there ∙ none_stands y es (sym (tells y) ∙ ap numbers_of gone)) h))

-- ---- tops that stay

-- rows at paths that are apart
abbrev pub Apart : List PlanRow → Type 0
Apart rows = overlap (map (λ r. path_of r.action) rows) ≡ false

met : (a y : Path) (rows : List PlanRow) → list_any (meet a) (map (λ r. path_of r.action) rows) ≡ false → stands y rows ≡ true → meet a y ≡ false
met a y [] h k = absurd (true≢false (sym k))
met a y (r ∷ rows) h k =
    let parts = or_parts (meet a (path_of r.action)) _ h in
    elim (or_cases (same_path y (path_of r.action)) (stands y rows) k) [
      | inl e ↦ ap (meet a) (path_same y (path_of r.action) e) ∙ parts.0
      | inr e ↦ met a y rows parts.1 e
    ]

pub apart_paths : (y q : Path) (rows : List PlanRow) → Apart rows → stands y rows ≡ true → stands q rows ≡ true → is_prefix y q ≡ true → y ≡ q
apart_paths y q [] apart h k up = absurd (true≢false (sym h))
apart_paths y q (r ∷ rows) apart h k up = by (or_cases (same_path y (path_of r.action)) (stands y rows) h) (or_cases (same_path q (path_of r.action)) (stands q rows) k) (λ e f. apart_paths y q rows (or_parts (list_any (meet (path_of r.action)) (map (λ r. path_of r.action) rows)) _ apart).1 e f up) where
  a : Path
  a = path_of r.action

  parts : (list_any (meet a) (map (λ r. path_of r.action) rows) ≡ false) × (overlap (map (λ r. path_of r.action) rows) ≡ false)
  parts = or_parts (list_any (meet a) (map (λ r. path_of r.action) rows)) _ apart

  by : (same_path y a ≡ true) ⊎ (stands y rows ≡ true) → (same_path q a ≡ true) ⊎ (stands q rows ≡ true) → (stands y rows ≡ true → stands q rows ≡ true → y ≡ q) → y ≡ q
  by (inl e) (inl f) rest = path_same y a e ∙ sym (path_same q a f)
  by (inl e) (inr f) rest = absurd (true≢false (sym (or_left (is_prefix a q) _ (ap (λ z. is_prefix z q) (sym (path_same y a e)) ∙ up)) ∙ met a q rows parts.0 f))
  by (inr e) (inl f) rest = absurd (true≢false (sym (or_right (is_prefix a y) _ (ap (is_prefix y) (sym (path_same q a f)) ∙ up)) ∙ met a y rows parts.0 e))
  by (inr e) (inr f) rest = rest e f

covered : Path → List PlanRow → Bool
covered y later = list_any (λ l. is_prefix (path_of l.action) y) later

stands-kept : (p : PlanRow → Bool) (b : Bool) (y : Path) (rows : List PlanRow) → ((r : PlanRow) → path_of r.action ≡ y → p r ≡ b) → stands y (filter p rows) ≡ (b && stands y rows)
stands-kept p b y rows f = any-filter_same (λ r. same_path y (path_of r.action)) p b (λ r e. f r (sym (path_same y (path_of r.action) e))) rows

stands-after : (old new : List PlanRow) (y : Path) → stands y (filter (is_left new) old ++ new) ≡ ((not (covered y new) && stands y old) || stands y new)
unfolding covered
stands-after old new y =
    list_any-append (λ r. same_path y (path_of r.action)) (filter (is_left new) old) new
    ∙ ap (λ b. b || stands y new) (stands-kept (is_left new) (not (covered y new)) y old (λ r e. ap (λ z. not (list_any (λ l. is_prefix (path_of l.action) z) new)) e))

top_stays : (old new : List PlanRow) (q : Path) (t : ℕ) → Apart new → IsTop old q t → stands q (filter (is_left new) old ++ new) ≡ true → IsTop (filter (is_left new) old ++ new) q t
unfolding covered
top_stays old new q t apart top there = record {
  short = top.short;
  there = λ low. stands-after old new (take t q) ∙ elim (cases_Bool (covered (take t q) new)) [
    | inl k ↦ stands_so (λ z. is_prefix z (take t q)) (((not (covered (take t q) new) && stands (take t q) old) || stands (take t q) new) ≡ true) new (λ z among up.
        let is = apart_paths z q new apart among (itself_new z among (prefix_trans z (take t q) q up (take_above t q))) (prefix_trans z (take t q) q up (take_above t q)) in
        let long = (first_keys z (take t q) up).1 in
        absurd (omega (arith, low, long, ap length is, length-take t q))) k
    | inr k ↦ or_left _ _ (and_from _ _ (ap not k) (top.there low))
  ];
  first = λ y up stand. elim (or_cases (not (covered y new) && stands y old) (stands y new) (sym (stands-after old new y) ∙ stand)) [
    | inl k ↦ top.first y up (and_parts (not (covered y new)) _ k).1
    | inr k ↦
        let is = apart_paths y q new apart k (itself_new y k up) up in
        let short = top.short in
        omega (arith, short, ap length is)
  ];
} where
  -- a path that the new rows cover stands among them
  itself_new : (z : Path) → stands z new ≡ true → is_prefix z q ≡ true → stands q new ≡ true
  itself_new z among up = elim (or_cases (not (covered q new) && stands q old) (stands q new) (sym (stands-after old new q) ∙ there)) [
    | inl k ↦ absurd (true≢false (sym (stands_then (λ y. is_prefix y q) z new among up) ∙ not-true _ (and_parts (not (covered q new)) _ k).0))
    | inr k ↦ k
  ]

-- the spots of the rows that are left and of the new ones have their tops
pub tops_after : (old new : List PlanRow) (places : Spots) (es : Entries) → values_of es ≡ filter (is_left new) old ++ new → Apart new → Tells places es → AreTops old places → AreTops (values_of es) places
tops_after old new places es is apart tells tops q = by (spot_at q places) (tells q) (tops q) where
  by : (o : Option Spot) → numbers_of o ≡ numbers_at q es → IfSome o (λ s. IsTop old q s.top) → IfSome o (λ s. IsTop (values_of es) q s.top)
  by None t h = tt
  by (Some s) t h =
      subst (λ (rows : List PlanRow). IsTop rows q s.top) (sym is)
      (top_stays old new q s.top apart h (ap (stands q) (sym is) ∙ told_back q es s t))

-- and so have those that a path that goes leaves
pub tops_left : (old : List PlanRow) (p : Path) (places : Spots) (es : Entries) → values_of es ≡ filter (λ r. not (is_prefix p (path_of r.action))) old → Tells places es → AreTops old places → AreTops (values_of es) places
tops_left old p places es is tells tops q = by (spot_at q places) (tells q) (tops q) where
  kept : (y : Path) → stands y (filter (λ r. not (is_prefix p (path_of r.action))) old) ≡ (not (is_prefix p y) && stands y old)
  kept y = stands-kept (λ r. not (is_prefix p (path_of r.action))) (not (is_prefix p y)) y old (λ r e. ap (λ z. not (is_prefix p z)) e)

  left : (t : ℕ) → IsTop old q t → stands q (filter (λ r. not (is_prefix p (path_of r.action))) old) ≡ true → IsTop (filter (λ r. not (is_prefix p (path_of r.action))) old) q t
  left t top there = record {
    short = top.short;
    there = λ low. kept (take t q) ∙ and_from _ _ (ap not (false_from_ne_true _ (λ k. true≢false (sym (prefix_trans p (take t q) q k (take_above t q)) ∙ not-true _ (and_parts (not (is_prefix p q)) _ (sym (kept q) ∙ there)).0)))) (top.there low);
    first = λ y up stand. top.first y up (and_parts (not (is_prefix p y)) _ (sym (kept y) ∙ stand)).1;
  }

  by : (o : Option Spot) → numbers_of o ≡ numbers_at q es → IfSome o (λ s. IsTop old q s.top) → IfSome o (λ s. IsTop (values_of es) q s.top)
  by None t h = tt
  by (Some s) t h =
      subst (λ (rows : List PlanRow). IsTop rows q s.top) (sym is)
      (left s.top h (ap (stands q) (sym is) ∙ told_back q es s t))
