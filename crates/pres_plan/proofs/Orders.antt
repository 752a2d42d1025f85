-- Rows in strict order, and what further actions and a plan keep of it.
use Rattle.std.proofs.Common.{refl, sym, ◌∙◌, ap, ◌≡◌, ◌<◌, ℕ, List, [], ◌∷◌, ◌++◌, true, false, cond, All}
use Rattle.std.specs.List.{AllByRecursion}
use Rattle.std.specs.List.Sorted.{IsStrictlySortedBy}
use Rattle.std.specs.Map.{keys_of}
use Rattle.std.specs.Cmp.{nat_cmp_is}
use Rattle.std.specs.Ordering.{nat_cmp, ordering_then}
use Rattle.std.specs.declared.cmp.Ordering.{Ordering}
use Rattle.std.specs.declared.cmp.Ordering.TheVariants.{Less, Equal}
use Rattle.std.proofs.lemmas.List.Elements.{All-nil, All-cons, All-head, All-tail}
use Rattle.std.proofs.lemmas.List.Kept.{IsStrictlySortedBy-filter}
use Rattle.pres_tree.specs.Paths.{Path, path_cmp}
use Rattle.pres_tree.specs.Rows.{Rows}
use Rattle.pres_write.specs.declared.draft.DraftLeaf.{DraftLeaf}
use Rattle.pres_plan.specs.declared.row.PlanRow.{PlanRow}
use Rattle.pres_plan.specs.declared.row.Action.TheVariants.{Put, Keep}
use Rattle.pres_plan.specs.Plans.{path_of, is_left, lasting, matters, plan_of, puts, cancels, row_cmp, ComesLast}

-- ---- lists

by_recursion : {X : Type 0} (P : X → Type 0) (xs : List X) → All P xs → AllByRecursion P xs
by_recursion P [] h = tt
by_recursion P (x ∷ xs) h = (All-head P x xs h, by_recursion P xs (All-tail P x xs h))

all-append : {X : Type 0} (P : X → Type 0) (xs ys : List X) → AllByRecursion P xs → AllByRecursion P ys → AllByRecursion P (xs ++ ys)
all-append P [] ys h g = g
all-append P (x ∷ xs) ys h g = (h.0, all-append P xs ys h.1 g)

-- what comes after each of some rows comes after the first, and after the others
first_of : (x : PlanRow) (xs news : List PlanRow) → AllByRecursion (λ n. All (λ row. row_cmp row n ≡ Less) (x ∷ xs)) news → AllByRecursion (λ n. row_cmp x n ≡ Less) news
first_of x xs [] h = tt
first_of x xs (n ∷ news) h = (All-head (λ row. row_cmp row n ≡ Less) x xs h.0, first_of x xs news h.1)

rest_of : (x : PlanRow) (xs news : List PlanRow) → AllByRecursion (λ n. All (λ row. row_cmp row n ≡ Less) (x ∷ xs)) news → AllByRecursion (λ n. All (λ row. row_cmp row n ≡ Less) xs) news
rest_of x xs [] h = tt
rest_of x xs (n ∷ news) h = (All-tail (λ row. row_cmp row n ≡ Less) x xs h.0, rest_of x xs news h.1)

-- ---- more rows

-- rows that each come after all are in order after them
in_order-append : (xs news : List PlanRow) → IsStrictlySortedBy row_cmp xs → IsStrictlySortedBy row_cmp news → AllByRecursion (λ n. All (λ row. row_cmp row n ≡ Less) xs) news → IsStrictlySortedBy row_cmp (xs ++ news)
unfolding IsStrictlySortedBy
in_order-append [] news h g last = g
in_order-append (x ∷ xs) news h g last =
    (all-append (λ n. row_cmp x n ≡ Less) xs news h.0 (first_of x xs news last), in_order-append xs news h.1 g (rest_of x xs news last))

all-lasting : (P : PlanRow → Type 0) (xs : List PlanRow) → AllByRecursion P xs → AllByRecursion P (lasting xs)
all-lasting P [] h = tt
all-lasting P (x ∷ xs) h = elim (is_left xs x) as (λ b. AllByRecursion P (cond b (x ∷ lasting xs) (lasting xs))) [
  | true ↦ (h.0, all-lasting P xs h.1)
  | false ↦ all-lasting P xs h.1
]

in_order-lasting : (xs : List PlanRow) → IsStrictlySortedBy row_cmp xs → IsStrictlySortedBy row_cmp (lasting xs)
unfolding IsStrictlySortedBy
in_order-lasting [] h = tt
in_order-lasting (x ∷ xs) h = elim (is_left xs x) as (λ b. IsStrictlySortedBy row_cmp (cond b (x ∷ lasting xs) (lasting xs))) [
  | true ↦ (all-lasting (λ y. row_cmp x y ≡ Less) xs h.0, in_order-lasting xs h.1)
  | false ↦ in_order-lasting xs h.1
]

-- the plan of actions in order is in order
pub in_order-plan : (xs : List PlanRow) → IsStrictlySortedBy row_cmp xs → IsStrictlySortedBy row_cmp (plan_of xs)
in_order-plan xs h = IsStrictlySortedBy-filter row_cmp (matters (lasting xs)) (lasting xs) (in_order-lasting xs h)

-- ---- puts and cancels

same_number : (q : ℕ) (o : Ordering) → ordering_then (nat_cmp q q) o ≡ o
same_number q o = ap (λ n. ordering_then n o) (sym (nat_cmp_is q q Equal refl))

first_put : (q : ℕ) (p : Path × Rows DraftLeaf) (ps : List (Path × Rows DraftLeaf)) → AllByRecursion (λ x. path_cmp p.0 x ≡ Less) (keys_of ps) → AllByRecursion (λ row. row_cmp (record { q = q; action = Put p }) row ≡ Less) (puts q ps)
first_put q p [] h = tt
first_put q p (x ∷ ps) h = (same_number q (path_cmp p.0 x.0) ∙ h.0, first_put q p ps h.1)

in_order-puts : (q : ℕ) (ps : List (Path × Rows DraftLeaf)) → IsStrictlySortedBy path_cmp (keys_of ps) → IsStrictlySortedBy row_cmp (puts q ps)
unfolding IsStrictlySortedBy
in_order-puts q [] h = tt
in_order-puts q (p ∷ ps) h = (first_put q p ps h.0, in_order-puts q ps h.1)

last_puts : (rows : List PlanRow) (q : ℕ) (ps : List (Path × Rows DraftLeaf)) → AllByRecursion (λ p. ComesLast q p.0 rows) ps → AllByRecursion (λ n. All (λ row. row_cmp row n ≡ Less) rows) (puts q ps)
last_puts rows q [] h = tt
last_puts rows q (p ∷ ps) h = (h.0, last_puts rows q ps h.1)

-- the plan of rows and puts in path order that come last
pub puts_in_order : (rows : List PlanRow) (q : ℕ) (ps : List (Path × Rows DraftLeaf)) → IsStrictlySortedBy row_cmp rows → IsStrictlySortedBy path_cmp (keys_of ps)
    → All (λ p. ComesLast q p.0 rows) ps → IsStrictlySortedBy row_cmp (plan_of (rows ++ puts q ps))
puts_in_order rows q ps order paths last =
    in_order-plan (rows ++ puts q ps)
    (in_order-append rows (puts q ps) order (in_order-puts q ps paths) (last_puts rows q ps (by_recursion (λ p. ComesLast q p.0 rows) ps last)))

one_in_order : (n : PlanRow) → IsStrictlySortedBy row_cmp (n ∷ [])
unfolding IsStrictlySortedBy
one_in_order n = (tt, tt)

-- the plan of rows and a put that comes last
pub put_in_order : (rows : List PlanRow) (q : ℕ) (p : Path × Rows DraftLeaf) → IsStrictlySortedBy row_cmp rows → ComesLast q p.0 rows → IsStrictlySortedBy row_cmp (plan_of (rows ++ puts q (p ∷ [])))
put_in_order rows q p order last = in_order-plan (rows ++ puts q (p ∷ [])) (in_order-append rows (puts q (p ∷ [])) order (one_in_order (record { q = q; action = Put p })) (last, tt))

-- the plan of rows and a cancel that comes last
pub cancel_in_order : (rows : List PlanRow) (q : ℕ) (path : Path) → IsStrictlySortedBy row_cmp rows → ComesLast q path rows → IsStrictlySortedBy row_cmp (plan_of (rows ++ cancels q path))
cancel_in_order rows q path order last = in_order-plan (rows ++ cancels q path) (in_order-append rows (cancels q path) order (one_in_order (record { q = q; action = Keep path })) (last, tt))

-- ---- later numbers

-- a message after those of all rows comes last with each path
pub later_comes_last : (q : ℕ) (path : Path) (rows : List PlanRow) → All (λ row. row.q < q) rows → ComesLast q path rows
later_comes_last q path [] h = All-nil (λ row. ordering_then (nat_cmp row.q q) (path_cmp (path_of row.action) path) ≡ Less)
later_comes_last q path (r ∷ rows) h =
    All-cons (λ row. ordering_then (nat_cmp row.q q) (path_cmp (path_of row.action) path) ≡ Less) r rows
    (ap (λ o. ordering_then o (path_cmp (path_of r.action) path)) (sym (nat_cmp_is r.q q Less (All-head (λ row. row.q < q) r rows h))))
    (later_comes_last q path rows (All-tail (λ row. row.q < q) r rows h))

-- and so does an update with each of its places
pub later_update_comes_last : (q : ℕ) (ps : List (Path × Rows DraftLeaf)) (rows : List PlanRow) → All (λ row. row.q < q) rows → All (λ p. ComesLast q p.0 rows) ps
later_update_comes_last q [] rows h = All-nil (λ p. ComesLast q p.0 rows)
later_update_comes_last q (p ∷ ps) rows h = All-cons (λ p. ComesLast q p.0 rows) p ps (later_comes_last q p.0 rows h) (later_update_comes_last q ps rows h)
