-- The first rows of a plan are a plan.
use Rattle.std.proofs.Common.{refl, sym, ◌∙◌, ap, subst, ◌≡◌, ℕ, suc, ◌+◌, ◌<◌, ◌≤◌, arith, length, length-append, List, [], ◌∷◌, ◌++◌, append_assoc, append-nil, Bool, true, false, cond, not, ◌&&◌, ◌||◌, true≢false, Less}
use Rattle.std.specs.List.{list_any, list_all, AllByRecursion, All}
use Rattle.std.specs.List.Sorted.{IsStrictlySortedBy}
use Rattle.std.proofs.lemmas.Bool.{and_parts, and_from, or_parts}
use Rattle.std.proofs.lemmas.List.Elements.{All-nil, All-cons}
use Rattle.std.proofs.lemmas.List.Folds.{list_all-append, list_any-append}
use Rattle.pres_tree.specs.Paths.{Path, is_prefix}
use Rattle.pres_plan.specs.declared.row.Action.{Action}
use Rattle.pres_plan.specs.declared.row.PlanRow.{PlanRow}
use Rattle.pres_plan.specs.Plans.{path_of, is_put, covers, is_left, matters, puts_above, plan_of, row_cmp, ComesLast, IsPlan}
use Rattle.pres_base.specs.InternalRows.{none_covered}
use Rattle.pres_base.proofs.Planned.{whole_plan, uncovered_plan, mattering_plan}

-- ---- order

front_before : (x : PlanRow) (xs ys : List PlanRow) → AllByRecursion (λ y. row_cmp x y ≡ Less) (xs ++ ys) → AllByRecursion (λ y. row_cmp x y ≡ Less) xs
front_before x [] ys h = tt
front_before x (y ∷ xs) ys h = (h.0, front_before x xs ys h.1)

front_order : (xs ys : List PlanRow) → IsStrictlySortedBy row_cmp (xs ++ ys) → IsStrictlySortedBy row_cmp xs
unfolding IsStrictlySortedBy
front_order [] ys h = tt
front_order (x ∷ xs) ys h = (front_before x xs ys h.0, front_order xs ys h.1)

last_after : (x : PlanRow) (xs : List PlanRow) (y : PlanRow) → AllByRecursion (λ z. row_cmp x z ≡ Less) (xs ++ y ∷ []) → row_cmp x y ≡ Less
last_after x [] y h = h.0
last_after x (z ∷ xs) y h = last_after x xs y h.1

-- the last row comes after each other one
after_all : (xs : List PlanRow) (y : PlanRow) → IsStrictlySortedBy row_cmp (xs ++ y ∷ []) → All (λ x. row_cmp x y ≡ Less) xs
unfolding IsStrictlySortedBy
after_all [] y h = All-nil (λ x. row_cmp x y ≡ Less)
after_all (x ∷ xs) y h = All-cons (λ z. row_cmp z y ≡ Less) x xs (last_after x xs y h.0) (after_all xs y h.1)

pub comes_last : (xs : List PlanRow) (y : PlanRow) {a : Action} → y.action ≡ a → IsStrictlySortedBy row_cmp (xs ++ y ∷ []) → ComesLast y.q (path_of a) xs
comes_last xs y {a} is h = subst (λ (b : Action). ComesLast y.q (path_of b) xs) is (after_all xs y h)

-- ---- rows that no later one covers

negated : (b : Bool) → not b ≡ true → b ≡ false
negated true h = absurd (true≢false (sym h))
negated false h = refl

left_front : (row : PlanRow) (xs ys : List PlanRow) → is_left (xs ++ ys) row ≡ true → (is_left xs row ≡ true) × (list_any (λ l. covers l row) ys ≡ false)
left_front row xs ys h =
    let parts = or_parts (list_any (λ l. covers l row) xs) (list_any (λ l. covers l row) ys) (sym (list_any-append (λ l. covers l row) xs ys) ∙ negated (list_any (λ l. covers l row) (xs ++ ys)) h) in
    (ap not parts.0, parts.1)

front_uncovered : (xs ys : List PlanRow) → none_covered (xs ++ ys) ≡ true → none_covered xs ≡ true
front_uncovered [] ys h = refl
front_uncovered (x ∷ xs) ys h =
    let parts = and_parts (is_left (xs ++ ys) x) (none_covered (xs ++ ys)) h in
    and_from (is_left xs x) (none_covered xs) (left_front x xs ys parts.0).0 (front_uncovered xs ys parts.1)

uncovered_by : (xs ys : List PlanRow) → none_covered (xs ++ ys) ≡ true → AllByRecursion (λ row. list_any (λ l. covers l row) ys ≡ false) xs
uncovered_by [] ys h = tt
uncovered_by (x ∷ xs) ys h =
    let parts = and_parts (is_left (xs ++ ys) x) (none_covered (xs ++ ys)) h in
    ((left_front x xs ys parts.0).1, uncovered_by xs ys parts.1)

-- ---- rows that matter

not_above : (row : PlanRow) (ys : List PlanRow) → list_any (λ l. covers l row) ys ≡ false → list_any (puts_above (path_of row.action)) ys ≡ false
not_above row [] h = refl
not_above row (y ∷ ys) h =
    let parts = or_parts (covers y row) (list_any (λ l. covers l row) ys) h in
    (λ i. (none (is_put y.action) (is_prefix (path_of y.action) (path_of row.action)) (not (is_prefix (path_of row.action) (path_of y.action))) parts.0 i) || (not_above row ys parts.1 i))
  where
    none : (a b c : Bool) → b ≡ false → (a && (b && c)) ≡ false
    none true b c h = ap (λ x. x && c) h
    none false b c h = refl

or_none : (a b c : Bool) → c ≡ false → (a || (b || c)) ≡ (a || b)
or_none true b c h = refl
or_none false true c h = refl
or_none false false c h = h

same_matter : (front ys : List PlanRow) (row : PlanRow) → list_any (λ l. covers l row) ys ≡ false → matters (front ++ ys) row ≡ matters front row
same_matter front ys row h =
    ap (λ b. is_put row.action || b) (list_any-append (puts_above (path_of row.action)) front ys)
    ∙ or_none (is_put row.action) (list_any (puts_above (path_of row.action)) front) (list_any (puts_above (path_of row.action)) ys) (not_above row ys h)

front_matters : (front xs ys : List PlanRow) → AllByRecursion (λ row. list_any (λ l. covers l row) ys ≡ false) xs → list_all (matters (front ++ ys)) xs ≡ true → list_all (matters front) xs ≡ true
front_matters front [] ys h all = refl
front_matters front (x ∷ xs) ys h all =
    let parts = and_parts (matters (front ++ ys) x) (list_all (matters (front ++ ys)) xs) all in
    and_from (matters front x) (list_all (matters front) xs) (sym (same_matter front ys x h.0) ∙ parts.0) (front_matters front xs ys h.1 parts.1)

-- ---- plans

pub front_plan : (xs ys : List PlanRow) → IsPlan (xs ++ ys) → IsPlan xs
front_plan xs ys plan =
    let uncovered = uncovered_plan (xs ++ ys) plan.whole in
    let matter = mattering_plan (xs ++ ys) plan.whole in
    record {
      whole = whole_plan xs (front_uncovered xs ys uncovered) (front_matters xs xs ys (uncovered_by xs ys uncovered) (and_parts (list_all (matters (xs ++ ys)) xs) (list_all (matters (xs ++ ys)) ys) (sym (list_all-append (matters (xs ++ ys)) xs ys) ∙ matter)).0);
      few = omega (arith, plan.few, length-append xs ys);
      in_order = front_order xs ys plan.in_order;
    }
