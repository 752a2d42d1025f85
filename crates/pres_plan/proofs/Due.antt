-- The writes that are due, row after row.
use Rattle.std.proofs.Common.{refl, sym, ◌∙◌, ap, arith, ◌≡◌, ◌+◌, ◌<◌, ℕ, suc, false, List, [], ◌∷◌, ◌++◌, ◌||◌, length, take, drop, get_or, drop-cons, add-one, append_assoc, append-nil}
use Rattle.std.specs.List.{list_any}
use Rattle.std.specs.Map.{values_of}
use Rattle.std.proofs.Math.Seq.{take-suc}
use Rattle.std.proofs.lemmas.List.{drop_more, length-map, length-take-le, map-append, take-append-drop}
use Rattle.pres_tree.specs.Paths.{Path, is_prefix}
use Rattle.pres_tree.specs.Rows.{Rows, value_at}
use Rattle.pres_tree.specs.Writes.{write}
use Rattle.pres_tree.specs.declared.scalar.Scalar.{Scalar}
use Rattle.pres_write.specs.declared.basic.Basic.{Basic}
use Rattle.pres_write.specs.Basics.{write_of}
use Rattle.pres_write.proofs.Held.{rows_of_option}
use Rattle.pres_plan.specs.declared.row.Action.{Action}
use Rattle.pres_plan.specs.declared.row.Action.TheVariants.{Put, Keep}
use Rattle.pres_plan.specs.declared.row.PlanRow.{PlanRow}
use Rattle.pres_plan.specs.Plans.{path_of, covers, plan_of, due_write, due_after, due, numbered}
use Rattle.pres_plan.specs.Standing.{Entries}
use Rattle.pres_plan.proofs.Earlier.{plan_apart}

pub due_after-append : (tree : Rows Scalar) (before : List Basic) (moment : ℕ) (xs ys : List PlanRow)
    → due_after tree before moment (xs ++ ys) ≡ due_after tree before moment xs ++ due_after tree (before ++ due_after tree before moment xs) moment ys
due_after-append tree before moment [] ys = ap (λ b. due_after tree b moment ys) (sym (append-nil before))
due_after-append tree before moment (x ∷ xs) ys =
    let made = due_write tree before moment x.action in
    ap (λ l. made ∷ l)
    (due_after-append tree (before ++ made ∷ []) moment xs ys
    ∙ ap (λ b. due_after tree (before ++ made ∷ []) moment xs ++ due_after tree b moment ys) (append_assoc before (made ∷ []) (due_after tree (before ++ made ∷ []) moment xs)))

-- the write of one row more
pub due_more : (tree : Rows Scalar) (moment : ℕ) (xs : List PlanRow) (row : PlanRow)
    → due tree moment (xs ++ row ∷ []) ≡ due tree moment xs ++ due_write tree (due tree moment xs) moment row.action ∷ []
due_more tree moment xs row = due_after-append tree [] moment xs (row ∷ [])

pub path-due : (tree : Rows Scalar) (before : List Basic) (moment : ℕ) (a : Action) → (due_write tree before moment a).path ≡ path_of a
path-due tree before moment (Put placement) = refl
path-due tree before moment (Keep path) = refl

pub keep-due : (tree : Rows Scalar) (before : List Basic) (moment : ℕ) (p : Path) → write_of (due_write tree before moment (Keep p)) ≡ write p (value_at p tree)
keep-due tree before moment p = ap (write p) (rows_of_option (value_at p tree))

-- the writes stand at the paths of their rows
pub covered_due : (tree : Rows Scalar) (before : List Basic) (moment : ℕ) (row : PlanRow) (rows : List PlanRow)
    → list_any (λ b. is_prefix (path_of row.action) b.path) (due_after tree before moment rows) ≡ list_any (λ a. covers row a) rows
covered_due tree before moment row [] = refl
covered_due tree before moment row (a ∷ rows) =
    λ i. is_prefix (path_of row.action) (path-due tree before moment a.action i) || covered_due tree (before ++ due_write tree before moment a.action ∷ []) moment row rows i

pub length-due : (tree : Rows Scalar) (before : List Basic) (moment : ℕ) (rows : List PlanRow) → length (due_after tree before moment rows) ≡ length rows
length-due tree before moment [] = refl
length-due tree before moment (row ∷ rows) = ap suc (length-due tree (before ++ due_write tree before moment row.action ∷ []) moment rows)

-- ---- rows with their numbers, one after the other

pub rows_more : (rows : Entries) (i : ℕ) (row : ℕ × PlanRow) → row ≡ get_or rows i row → i < length rows → values_of (take (i + 1) rows) ≡ values_of (take i rows) ++ row.1 ∷ []
rows_more rows i row is h =
    ap (λ n. values_of (take n rows)) (add-one i) ∙ ap values_of (take-suc rows i row h) ∙ map-append (λ e. e.1) (take i rows) (get_or rows i row ∷ [])
    ∙ ap (λ e. values_of (take i rows) ++ e.1 ∷ []) (sym is)

-- no write that was due before a row of a plan is at its path or below it
pub none_covered : (tree : Rows Scalar) (moment : ℕ) (rows : Entries) (i : ℕ) (row : ℕ × PlanRow) → row ≡ get_or rows i row → i < length rows
    → (plan : List PlanRow) → values_of rows ≡ plan → plan_of plan ≡ plan → list_any (λ b. is_prefix (path_of row.1.action) b.path) (due tree moment (values_of (take i rows))) ≡ false
none_covered tree moment rows i row is h plan same whole =
    let done = values_of (take i rows) in
    let later = values_of (drop (suc i) rows) in
    let split : rows ≡ take i rows ++ row ∷ drop (suc i) rows = sym (take-append-drop i rows) ∙ ap (λ l. take i rows ++ l) (drop-cons rows i row h ∙ ap (λ e. e ∷ drop (suc i) rows) (sym is)) in
    let parts : plan ≡ done ++ row.1 ∷ later = sym same ∙ ap values_of split ∙ map-append (λ e. e.1) (take i rows) (row ∷ drop (suc i) rows) in
    covered_due tree [] moment row.1 done ∙ plan_apart done later row.1 (ap plan_of (sym parts) ∙ whole ∙ parts)

-- ---- the writes of these rows, one after the other

abbrev without_first : {A : Type 0} → List A → List A
without_first [] = []
without_first (x ∷ xs) = xs

pub next_left : {A : Type 0} (i : ℕ) (xs : List A) (a : A) (ys : List A) → i < length xs → drop i xs ≡ a ∷ ys → drop (i + 1) xs ≡ ys
next_left i xs a ys h e = ap without_first (sym (drop_more xs i a h) ∙ e)

numbered_last : (xs : List PlanRow) (row : PlanRow) (writes : List Basic) (b : Basic) (ys : List Basic) → drop (length xs) writes ≡ b ∷ ys
    → numbered (xs ++ row ∷ []) writes ≡ numbered xs writes ++ record { q = row.q; basic = b } ∷ []
numbered_last [] row writes b ys h = ap (numbered (row ∷ [])) h ∙ ends ys where
  ends : (zs : List Basic) → numbered (row ∷ []) (b ∷ zs) ≡ record { q = row.q; basic = b } ∷ []
  ends zs = refl
numbered_last (x ∷ xs) row [] b ys h = cc
numbered_last (x ∷ xs) row (w ∷ writes) b ys h = ap (λ l. record { q = x.q; basic = w } ∷ l) (numbered_last xs row writes b ys h)

pub numbered_more : (rows : Entries) (i : ℕ) (row : ℕ × PlanRow) (writes : List Basic) (b : Basic) (ys : List Basic) → row ≡ get_or rows i row → i < length rows → drop i writes ≡ b ∷ ys
    → numbered (values_of (take (i + 1) rows)) writes ≡ numbered (values_of (take i rows)) writes ++ record { q = row.1.q; basic = b } ∷ []
numbered_more rows i row writes b ys is h next =
    let so : length (values_of (take i rows)) ≡ i = length-map (take i rows) (λ e. e.1) ∙ length-take-le i rows (omega arith) in
    ap (λ l. numbered l writes) (rows_more rows i row is h)
    ∙ numbered_last (values_of (take i rows)) row.1 writes b ys (ap (λ n. drop n writes) so ∙ next)
