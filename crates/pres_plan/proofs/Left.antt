-- What further actions leave of the rows of a plan.
use Rattle.std.proofs.Common.{refl, sym, ◌∙◌, ap, subst, ◌≡◌, ℕ, List, [], ◌∷◌, ◌++◌, map, Bool, true, false, not, cond, ◌||◌, true≢false, filter, append_assoc, Some, None, is_some}
use Rattle.std.specs.List.{list_any}
use Rattle.std.proofs.lemmas.Bool.{and_parts, or_parts, or_left, not-true, false_from_ne_true}
use Rattle.std.proofs.lemmas.List.Folds.{list_any-append}
use Rattle.pres_tree.specs.Paths.{Path, below, is_prefix, meet, overlap}
use Rattle.pres_tree.specs.Rows.{Rows}
use Rattle.pres_tree.proofs.Found.{IsRest, rest_is}
use Rattle.pres_tree.proofs.Values.{below-append}
use Rattle.pres_write.specs.declared.draft.DraftLeaf.{DraftLeaf}
use Rattle.pres_plan.specs.declared.row.PlanRow.{PlanRow}
use Rattle.pres_plan.specs.declared.row.Action.TheVariants.{Put}
use Rattle.pres_plan.specs.Plans.{path_of, is_put, covers, is_left, lasting, puts_above, matters, plan_of, puts, cancels}

-- ---- lists

pub or_map : (a b c d : Bool) → (a ≡ true → c ≡ true) → (b ≡ true → d ≡ true) → a || b ≡ true → c || d ≡ true
or_map true b c d f g e = or_left c d (f refl)
or_map false b true d f g e = refl
or_map false b false d f g e = g e

pub any_implies : {A : Type 0} (f g : A → Bool) (xs : List A) → ((a : A) → f a ≡ true → g a ≡ true) → list_any f xs ≡ true → list_any g xs ≡ true
any_implies f g [] h e = e
any_implies f g (x ∷ xs) h e = or_map (f x) _ (g x) _ (h x) (any_implies f g xs h) e

-- a filter that passes all that f passes changes nothing for f
pub any_same : {A : Type 0} (f k : A → Bool) (xs : List A) → ((a : A) → f a ≡ true → k a ≡ true) → list_any f (filter k xs) ≡ list_any f xs
any_same f k [] h = refl
any_same {A} f k (x ∷ xs) h = by_head (f x) (k x) refl (h x) (any_same f k xs h) where
  by_head : (a b : Bool) → f x ≡ a → (a ≡ true → b ≡ true) → list_any f (filter k xs) ≡ list_any f xs → list_any f (cond b (x ∷ filter k xs) (filter k xs)) ≡ (a || list_any f xs)
  by_head true true e i r = λ j. e j || r j
  by_head false true e i r = λ j. e j || r j
  by_head true false e i r = absurd (true≢false (sym (i refl)))
  by_head false false e i r = r

pub any_filter : {A : Type 0} (f m : A → Bool) (xs : List A) → list_any f (filter m xs) ≡ true → list_any f xs ≡ true
any_filter f m [] = λ e. e
any_filter f m (x ∷ xs) = elim (m x) as (λ b. list_any f (cond b (x ∷ filter m xs) (filter m xs)) ≡ true → (f x || list_any f xs) ≡ true) [
  | true ↦ or_map (f x) _ (f x) _ (λ e. e) (any_filter f m xs)
  | false ↦ λ e. or_map false _ (f x) _ (λ g. absurd (true≢false (sym g))) (any_filter f m xs) e
]

pub false_of : (a b : Bool) → (a ≡ true → b ≡ true) → b ≡ false → a ≡ false
false_of a b h e = false_from_ne_true a (λ k. true≢false (sym (h k) ∙ e))

pub filter-append : {A : Type 0} (p : A → Bool) (xs ys : List A) → filter p (xs ++ ys) ≡ filter p xs ++ filter p ys
filter-append p [] ys = refl
filter-append p (x ∷ xs) ys = elim (p x) as (λ b. cond b (x ∷ filter p (xs ++ ys)) (filter p (xs ++ ys)) ≡ cond b (x ∷ filter p xs) (filter p xs) ++ filter p ys) [
  | true ↦ ap (λ l. x ∷ l) (filter-append p xs ys)
  | false ↦ filter-append p xs ys
]

pub filter_same : {A : Type 0} (f g : A → Bool) (xs : List A) → ((a : A) → f a ≡ g a) → filter f xs ≡ filter g xs
filter_same f g xs h = λ i. filter (λ x. h x i) xs

-- a filter that passes what others passed already changes nothing
pub filter_idle : {A : Type 0} (m u k : A → Bool) (xs : List A) → ((a : A) → m a ≡ true → u a ≡ true → k a ≡ true) → filter k (filter u (filter m xs)) ≡ filter u (filter m xs)
filter_idle m u k [] h = refl
filter_idle {A} m u k (x ∷ xs) h = by_first (m x) refl (filter_idle m u k xs h) where
  left : List A
  left = filter u (filter m xs)

  by_second : (b : Bool) → u x ≡ b → m x ≡ true → filter k left ≡ left → filter k (cond b (x ∷ left) left) ≡ cond b (x ∷ left) left
  by_second true e g r = ap (λ c. cond c (x ∷ filter k left) (filter k left)) (h x g e) ∙ ap (λ l. x ∷ l) r
  by_second false e g r = r

  by_first : (a : Bool) → m x ≡ a → filter k left ≡ left → filter k (filter u (cond a (x ∷ filter m xs) (filter m xs))) ≡ filter u (cond a (x ∷ filter m xs) (filter m xs))
  by_first true e r = by_second (u x) refl e r
  by_first false e r = r

-- ---- prefixes

-- a path that goes on with p is p and more
pub prefix_rest : (p x : Path) → is_prefix p x ≡ true → (z : Path) × (x ≡ p ++ z)
prefix_rest p x h = elim (below p x) as (λ o. IsRest p x o → is_some o ≡ true → (z : Path) × (x ≡ p ++ z)) [
  | None ↦ λ e k. absurd (true≢false (sym k))
  | Some z ↦ λ e k. (z, e)
] (rest_is p x) h

pub prefix-append : (p z : Path) → is_prefix p (p ++ z) ≡ true
prefix-append p z = ap is_some (below-append p z)

pub prefix_trans : (a b c : Path) → is_prefix a b ≡ true → is_prefix b c ≡ true → is_prefix a c ≡ true
prefix_trans a b c h k =
    let x = prefix_rest a b h in
    let y = prefix_rest b c k in
    ap (is_prefix a) (y.1 ∙ ap (λ l. l ++ y.0) x.1 ∙ append_assoc a x.0 y.0) ∙ prefix-append a (x.0 ++ y.0)

-- ---- rows that stay

-- a put above the path is at or above it
pub above_covers : (p : Path) (b : PlanRow) → puts_above p b ≡ true → is_prefix (path_of b.action) p ≡ true
above_covers p b e = (and_parts (is_prefix (path_of b.action) p) _ (and_parts (is_put b.action) _ e).1).0

-- what covers a row that is left is left
left_up : (later : List PlanRow) (b a : PlanRow) → covers b a ≡ true → is_left later a ≡ true → is_left later b ≡ true
left_up later b a over left =
    ap not
    (false_of (list_any (λ l. covers l b) later) (list_any (λ l. covers l a) later)
    (any_implies (λ l. covers l b) (λ l. covers l a) later (λ l e. prefix_trans (path_of l.action) (path_of b.action) (path_of a.action) e over))
    (not-true _ left))

pub any_lasting : (f : PlanRow → Bool) (xs : List PlanRow) → list_any f (lasting xs) ≡ true → list_any f xs ≡ true
any_lasting f [] = λ e. e
any_lasting f (x ∷ xs) = elim (is_left xs x) as (λ b. list_any f (cond b (x ∷ lasting xs) (lasting xs)) ≡ true → (f x || list_any f xs) ≡ true) [
  | true ↦ or_map (f x) _ (f x) _ (λ e. e) (any_lasting f xs)
  | false ↦ λ e. or_map false _ (f x) _ (λ g. absurd (true≢false (sym g))) (any_lasting f xs) e
]

-- no row of the list is covered by a later one
abbrev pub Lasts : List PlanRow → Type 0
Lasts [] = Unit {0}
Lasts (a ∷ later) = (list_any (λ l. covers l a) later ≡ false) × Lasts later

lasting-Lasts : (xs : List PlanRow) → Lasts (lasting xs)
lasting-Lasts [] = tt
lasting-Lasts (x ∷ xs) = elim (is_left xs x) as (λ b. is_left xs x ≡ b → Lasts (cond b (x ∷ lasting xs) (lasting xs))) [
  | true ↦ λ e. (false_of _ _ (any_lasting (λ l. covers l x) xs) (not-true _ e), lasting-Lasts xs)
  | false ↦ λ e. lasting-Lasts xs
] refl

filter-Lasts : (m : PlanRow → Bool) (xs : List PlanRow) → Lasts xs → Lasts (filter m xs)
filter-Lasts m [] h = tt
filter-Lasts m (x ∷ xs) h = elim (m x) as (λ b. Lasts (cond b (x ∷ filter m xs) (filter m xs))) [
  | true ↦ (false_of _ _ (any_filter (λ l. covers l x) m xs) h.0, filter-Lasts m xs h.1)
  | false ↦ filter-Lasts m xs h.1
]

lasting-same : (xs : List PlanRow) → Lasts xs → lasting xs ≡ xs
lasting-same [] h = refl
lasting-same (x ∷ xs) h = ap (λ b. cond (not b) (x ∷ lasting xs) (lasting xs)) h.0 ∙ ap (λ l. x ∷ l) (lasting-same xs h.1)

pub lasting-plan : (xs : List PlanRow) → lasting (plan_of xs) ≡ plan_of xs
lasting-plan xs = lasting-same (plan_of xs) (filter-Lasts (matters (lasting xs)) (lasting xs) (lasting-Lasts xs))

pub lasting-append : (xs ys : List PlanRow) → lasting (xs ++ ys) ≡ filter (is_left ys) (lasting xs) ++ lasting ys
lasting-append [] ys = refl
lasting-append (x ∷ xs) ys =
    ap (λ b. cond (not b) (x ∷ lasting (xs ++ ys)) (lasting (xs ++ ys))) (list_any-append (λ l. covers l x) xs ys)
    ∙ ap (λ l. cond (not (list_any (λ l. covers l x) xs || list_any (λ l. covers l x) ys)) (x ∷ l) l) (lasting-append xs ys)
    ∙ by_head (list_any (λ l. covers l x) xs) (list_any (λ l. covers l x) ys) refl where
      left : List PlanRow
      left = filter (is_left ys) (lasting xs)

      by_head : (a b : Bool) → list_any (λ l. covers l x) ys ≡ b →
          cond (not (a || b)) (x ∷ left ++ lasting ys) (left ++ lasting ys) ≡ filter (is_left ys) (cond (not a) (x ∷ lasting xs) (lasting xs)) ++ lasting ys
      by_head true b e = refl
      by_head false true e = sym (ap (λ t. cond (not t) (x ∷ left) left ++ lasting ys) e)
      by_head false false e = sym (ap (λ t. cond (not t) (x ∷ left) left ++ lasting ys) e)

-- no row of a plan is covered by a later one
pub plan_lasts : (xs : List PlanRow) → plan_of xs ≡ xs → Lasts xs
plan_lasts xs whole = subst Lasts whole (filter-Lasts (matters (lasting xs)) (lasting xs) (lasting-Lasts xs))

abbrev pub planned : List PlanRow → List PlanRow
planned left = filter (matters left) left

-- a row of a plan that later actions leave still matters
still : (rows later : List PlanRow) (a : PlanRow) → matters rows a ≡ true → is_left later a ≡ true → matters (filter (is_left later) rows ++ lasting later) a ≡ true
still rows later a m left =
    or_map (is_put a.action) (list_any (puts_above p) rows) (is_put a.action) _ (λ e. e)
    (λ e. list_any-append (puts_above p) (filter (is_left later) rows) (lasting later)
    ∙ or_left _ _ (any_same (puts_above p) (is_left later) rows (λ b k. left_up later b a (above_covers p b k) left) ∙ e))
    m where
      p : Path
      p = path_of a.action

-- of a plan the rows stay that no further action covers
pub rows_left : (rows later : List PlanRow) → plan_of rows ≡ rows
    → plan_of (rows ++ later) ≡ filter (is_left later) rows ++ filter (matters (filter (is_left later) rows ++ lasting later)) (lasting later)
rows_left rows later whole =
    ap planned (lasting-append rows later ∙ ap (λ l. filter (is_left later) l ++ lasting later) all)
    ∙ filter-append (matters both) (filter (is_left later) rows) (lasting later)
    ∙ ap (λ l. l ++ filter (matters both) (lasting later))
    (ap (λ l. filter (matters both) (filter (is_left later) l)) (sym stands)
    ∙ filter_idle (matters rows) (is_left later) (matters both) rows (still rows later)
    ∙ ap (filter (is_left later)) stands)
  where
    both : List PlanRow
    both = filter (is_left later) rows ++ lasting later

    all : lasting rows ≡ rows
    all = ap lasting (sym whole) ∙ lasting-plan rows ∙ whole

    stands : filter (matters rows) rows ≡ rows
    stands = sym (ap planned all) ∙ whole

-- ---- puts

none_above : (q : ℕ) (x : Path) (ps : List (Path × Rows DraftLeaf)) → list_any (meet x) (map (λ p. p.0) ps) ≡ false → list_any (λ l. is_prefix (path_of l.action) x) (puts q ps) ≡ false
none_above q x [] h = refl
none_above q x (p ∷ ps) h =
    let parts = or_parts (meet x p.0) _ h in
    ap (λ b. b || list_any (λ l. is_prefix (path_of l.action) x) (puts q ps)) (or_parts (is_prefix x p.0) _ parts.0).1 ∙ none_above q x ps parts.1

lasting-puts : (q : ℕ) (ps : List (Path × Rows DraftLeaf)) → overlap (map (λ p. p.0) ps) ≡ false → lasting (puts q ps) ≡ puts q ps
lasting-puts q [] h = refl
lasting-puts q (p ∷ ps) h =
    let parts = or_parts (list_any (meet p.0) (map (λ p. p.0) ps)) _ h in
    ap (λ b. cond (not b) (record { q = q; action = Put p } ∷ lasting (puts q ps)) (lasting (puts q ps))) (none_above q p.0 ps parts.0)
    ∙ ap (λ l. record { q = q; action = Put p } ∷ l) (lasting-puts q ps parts.1)

puts_matter : (left : List PlanRow) (q : ℕ) (ps : List (Path × Rows DraftLeaf)) → filter (matters left) (puts q ps) ≡ puts q ps
puts_matter left q [] = refl
puts_matter left q (p ∷ ps) = ap (λ l. record { q = q; action = Put p } ∷ l) (puts_matter left q ps)

-- a plan and puts more
pub plan-puts : (rows : List PlanRow) (q : ℕ) (ps : List (Path × Rows DraftLeaf)) → plan_of rows ≡ rows → overlap (map (λ p. p.0) ps) ≡ false
    → plan_of (rows ++ puts q ps) ≡ filter (is_left (puts q ps)) rows ++ puts q ps
plan-puts rows q ps whole apart =
    rows_left rows (puts q ps) whole
    ∙ ap (λ l. filter (is_left (puts q ps)) rows ++ filter (matters (filter (is_left (puts q ps)) rows ++ l)) l) (lasting-puts q ps apart)
    ∙ ap (λ l. filter (is_left (puts q ps)) rows ++ l) (puts_matter (filter (is_left (puts q ps)) rows ++ puts q ps) q ps)

-- ---- cancels

or_false : (b : Bool) → (b || false) ≡ b
or_false true = refl
or_false false = refl

pub left_by_cancel : (q : ℕ) (p : Path) (b : PlanRow) → is_left (cancels q p) b ≡ not (is_prefix p (path_of b.action))
left_by_cancel q p b = ap not (or_false (is_prefix p (path_of b.action)))

above_is_left : (q : ℕ) (p : Path) (b : PlanRow) → puts_above p b ≡ true → is_left (cancels q p) b ≡ true
above_is_left q p b e = left_by_cancel q p b ∙ (and_parts (is_prefix (path_of b.action) p) _ (and_parts (is_put b.action) _ e).1).1

-- a plan and a cancel more
pub plan-cancel : (rows : List PlanRow) (q : ℕ) (p : Path) → plan_of rows ≡ rows
    → plan_of (rows ++ cancels q p) ≡ filter (is_left (cancels q p)) rows ++ cond (list_any (puts_above p) rows) (cancels q p) []
plan-cancel rows q p whole =
    rows_left rows (cancels q p) whole
    ∙ ap (λ b. left ++ cond b (cancels q p) [])
    (list_any-append (puts_above p) left (cancels q p)
    ∙ or_false (list_any (puts_above p) left)
    ∙ any_same (puts_above p) (is_left (cancels q p)) rows (above_is_left q p))
  where
    left : List PlanRow
    left = filter (is_left (cancels q p)) rows
