-- A step of a plan: how many rows it leaves, and that these are a plan.
use Rattle.std.proofs.Common.{refl, sym, ◌∙◌, ap, ◌≡◌, ◌+◌, ◌-◌, ◌<◌, ◌≤◌, ℕ, List, [], ◌∷◌, ◌++◌, map, length, length-append, Bool, true, false, not, cond, ◌||◌, filter, Result, Ok, Err, subst, arith, append-nil, ◌↔◌}
use Prim.Native.Nat.{suc}
use Rattle.std.specs.List.{list_any}
use Rattle.std.specs.List.Sorted.{IsStrictlySortedBy}
use Rattle.std.specs.Result.{IsErr, IsErrAnd, IsErrOf}
use Rattle.std.specs.Prelude.{nat_lt, nat_le}
use Rattle.std.proofs.lemmas.Bool.{leb-true, leb-false, le-leb, lt-leb, lt-ltb}
use Rattle.pres_tree.specs.Paths.{Path, is_prefix, overlap}
use Rattle.pres_tree.specs.Rows.{Rows}
use Rattle.pres_write.specs.declared.draft.DraftLeaf.{DraftLeaf}
use Rattle.pres_plan.specs.declared.fault.PlanFault.{PlanFault}
use Rattle.pres_plan.specs.declared.fault.PlanFault.TheVariants.{Memory, Full}
use Rattle.pres_plan.specs.declared.row.Action.TheVariants.{Put, Keep}
use Rattle.pres_plan.specs.declared.row.PlanRow.{PlanRow}
use Rattle.pres_plan.specs.Plans.{path_of, covers, is_left, puts_above, plan_of, puts, cancels, row_cmp, IsPlan}
use Rattle.pres_plan.proofs.Left.{filter_same, plan-puts, plan-cancel, left_by_cancel}
use Rattle.pres_plan.proofs.Grows.{plan_of-plan}

pub length-kept : {A : Type 0} (p : A → Bool) (xs : List A) → length (filter p xs) ≤ length xs
length-kept p [] = omega arith
length-kept p (x ∷ xs) = by_head (p x) (length-kept p xs) where
  by_head : (b : Bool) → length (filter p xs) ≤ length xs → length (cond b (x ∷ filter p xs) (filter p xs)) ≤ suc (length xs)
  by_head true h = omega arith
  by_head false h = omega arith

-- tests that say the same
same_test : (a b m n : ℕ) → (a ≤ b → m ≤ n) → (m ≤ n → a ≤ b) → nat_le a b ≡ nat_le m n
same_test a b m n f g = by_tests (nat_le a b) (nat_le m n) refl refl where
  by_tests : (s t : Bool) → nat_le a b ≡ s → nat_le m n ≡ t → s ≡ t
  by_tests true true d e = refl
  by_tests true false d e = let low = leb-false m n e in let high = f (leb-true a b d) in absurd (omega arith)
  by_tests false true d e = let low = leb-false a b d in let high = g (leb-true m n e) in absurd (omega arith)
  by_tests false false d e = refl

-- a plan with few rows in order
pub is_plan : (xs rows : List PlanRow) → rows ≡ plan_of xs → length rows ≤ 256 → IsStrictlySortedBy row_cmp (plan_of xs) → IsPlan rows
is_plan xs rows e few order = record { whole = ap plan_of e ∙ plan_of-plan xs ∙ sym e; few = few; in_order = subst (λ (l : List PlanRow). IsStrictlySortedBy row_cmp l) (sym e) order }

-- ---- puts

length-puts : (q : ℕ) (ps : List (Path × Rows DraftLeaf)) → length (puts q ps) ≡ length ps
length-puts q [] = refl
length-puts q (p ∷ ps) = ap suc (length-puts q ps)

pub puts_paths : (q : ℕ) (ps : List (Path × Rows DraftLeaf)) → map (λ row. path_of row.action) (puts q ps) ≡ map (λ p. p.0) ps
puts_paths q [] = refl
puts_paths q (p ∷ ps) = ap (λ l. p.0 ∷ l) (puts_paths q ps)

any-puts : (f : PlanRow → Bool) (q : ℕ) (ps : List (Path × Rows DraftLeaf)) → list_any f (puts q ps) ≡ list_any (λ p. f (record { q = q; action = Put p })) ps
any-puts f q [] = refl
any-puts f q (p ∷ ps) = ap (λ b. f (record { q = q; action = Put p }) || b) (any-puts f q ps)

left_by_puts : (q : ℕ) (ps : List (Path × Rows DraftLeaf)) (row : PlanRow) → is_left (puts q ps) row ≡ not (list_any (λ p. is_prefix p.0 (path_of row.action)) ps)
left_by_puts q ps row = ap not (any-puts (λ l. covers l row) q ps)

pub room_for_puts : (rows : List PlanRow) (ps : List (Path × Rows DraftLeaf)) (n : ℕ) → IsPlan rows → overlap (map (λ p. p.0) ps) ≡ false
    → n ≡ length (filter (λ row. not (list_any (λ p. is_prefix p.0 (path_of row.action)) ps)) rows)
    → (q : ℕ) → nat_le (length ps) (256 - n) ≡ nat_le (length (plan_of (rows ++ puts q ps))) 256
room_for_puts rows ps n plan apart count q =
    let few = plan.few in
    let fewer = length-kept (λ row. not (list_any (λ p. is_prefix p.0 (path_of row.action)) ps)) rows in
    let all : length (plan_of (rows ++ puts q ps)) ≡ n + length ps =
    ap length (plan-puts rows q ps plan.whole apart)
    ∙ length-append (filter (is_left (puts q ps)) rows) (puts q ps)
    ∙ (λ i. length (filter_same (is_left (puts q ps)) (λ row. not (list_any (λ p. is_prefix p.0 (path_of row.action)) ps)) rows (left_by_puts q ps) i) + length-puts q ps i)
    ∙ ap (λ m. m + length ps) (sym count) in
    same_test (length ps) (256 - n) (length (plan_of (rows ++ puts q ps))) 256 (λ h. omega arith) (λ h. omega arith)

-- the rows that an update leaves
pub puts_done : (old made new : List PlanRow) (q : ℕ) (ps : List (Path × Rows DraftLeaf)) → IsPlan old → overlap (map (λ p. p.0) ps) ≡ false
    → made ≡ puts q ps → new ≡ filter (is_left made) old ++ made → new ≡ plan_of (old ++ puts q ps)
puts_done old made new q ps plan apart made_is new_is = new_is ∙ ap (λ l. filter (is_left l) old ++ l) made_is ∙ sym (plan-puts old q ps plan.whole apart)

-- ---- cancels

length-if : (b : Bool) (c : PlanRow) → length (cond b (c ∷ []) []) ≡ cond b 1 0
length-if true c = refl
length-if false c = refl

length-cancel : (rows : List PlanRow) (p : Path) (n : ℕ) → IsPlan rows → n ≡ length (filter (λ row. not (is_prefix p (path_of row.action))) rows)
    → (q : ℕ) → length (plan_of (rows ++ cancels q p)) ≡ n + cond (list_any (puts_above p) rows) 1 0
length-cancel rows p n plan count q =
    ap length (plan-cancel rows q p plan.whole)
    ∙ length-append (filter (is_left (cancels q p)) rows) (cond (list_any (puts_above p) rows) (cancels q p) [])
    ∙ (λ i. length (filter_same (is_left (cancels q p)) (λ row. not (is_prefix p (path_of row.action))) rows (left_by_cancel q p) i) + length-if (list_any (puts_above p) rows) (record { q = q; action = Keep p }) i)
    ∙ ap (λ m. m + cond (list_any (puts_above p) rows) 1 0) (sym count)

at_most_one : (b : Bool) → cond b 1 0 ≤ 1
at_most_one true = omega arith
at_most_one false = omega arith

pub room_left : (rows : List PlanRow) (p : Path) (n : ℕ) → IsPlan rows → n ≡ length (filter (λ row. not (is_prefix p (path_of row.action))) rows)
    → n < 256 → (q : ℕ) → nat_lt n 256 ≡ nat_le (length (plan_of (rows ++ cancels q p))) 256
room_left rows p n plan count low q =
    let all = length-cancel rows p n plan count q in
    let one = at_most_one (list_any (puts_above p) rows) in
    lt-ltb n 256 low ∙ sym (le-leb _ 256 (omega arith))

full : (b : Bool) (n m : ℕ) → m ≡ n + cond b 1 0 → n ≡ 256 → not b ≡ nat_le m 256
full true n m e h = sym (lt-leb m 256 (omega arith))
full false n m e h = sym (le-leb m 256 (omega arith))

pub no_room_left : (rows : List PlanRow) (p : Path) (n : ℕ) → IsPlan rows → n ≡ length (filter (λ row. not (is_prefix p (path_of row.action))) rows)
    → 256 ≤ n → (q : ℕ) → not (list_any (puts_above p) rows) ≡ nat_le (length (plan_of (rows ++ cancels q p))) 256
no_room_left rows p n plan count low q =
    let few = plan.few in
    let fewer = length-kept (λ row. not (is_prefix p (path_of row.action))) rows in
    let all = length-cancel rows p n plan count q in
    full (list_any (puts_above p) rows) n (length (plan_of (rows ++ cancels q p))) all (omega arith)

-- the rows that a cancel leaves with a row that keeps
pub keep_done : (old made new : List PlanRow) (q : ℕ) (p : Path) → IsPlan old → true ≡ list_any (puts_above p) old
    → made ≡ cancels q p → new ≡ filter (is_left made) old ++ made → new ≡ plan_of (old ++ cancels q p)
keep_done old made new q p plan above made_is new_is =
    new_is ∙ ap (λ l. filter (is_left l) old ++ l) made_is ∙ ap (λ b. filter (is_left (cancels q p)) old ++ cond b (cancels q p) []) above ∙ sym (plan-cancel old q p plan.whole)

-- the rows that a cancel leaves where no put stands above
pub clear_done : (old new : List PlanRow) (q : ℕ) (p : Path) → IsPlan old → false ≡ list_any (puts_above p) old
    → new ≡ filter (λ row. not (is_prefix p (path_of row.action))) old → (new ≡ plan_of (old ++ cancels q p)) × (length new ≤ 256)
clear_done old new q p plan none new_is =
    let few = plan.few in (
      new_is
          ∙ sym (filter_same (is_left (cancels q p)) (λ row. not (is_prefix p (path_of row.action))) old (left_by_cancel q p))
          ∙ sym (append-nil (filter (is_left (cancels q p)) old))
          ∙ ap (λ b. filter (is_left (cancels q p)) old ++ cond b (cancels q p) []) none
          ∙ sym (plan-cancel old q p plan.whole),
      omega (arith, ap length new_is, length-kept (λ row. not (is_prefix p (path_of row.action))) old),
    )

-- such a cancel leaves few rows
pub clear_few : (old : List PlanRow) (q : ℕ) (p : Path) → IsPlan old → false ≡ list_any (puts_above p) old → length (plan_of (old ++ cancels q p)) ≤ 256
clear_few old q p plan none =
    let step = clear_done old (filter (λ row. not (is_prefix p (path_of row.action))) old) q p plan none refl in
    subst (λ (l : List PlanRow). length l ≤ 256) step.0 step.1

-- ---- refusals

abbrev AnswersRoom : Bool → List PlanRow → (ℕ → List PlanRow) → Type 0
AnswersRoom b old new = (q : ℕ) → b ≡ nat_le (length (plan_of (old ++ new q))) 256

pub few_rows : (old : List PlanRow) (new : ℕ → List PlanRow) (b : Bool) → AnswersRoom b old new → b ≡ true → (q : ℕ) → length (plan_of (old ++ new q)) ≤ 256
few_rows old new b e h q = leb-true (length (plan_of (old ++ new q))) 256 (sym (e q) ∙ h)

pub is_full : (old : List PlanRow) (new : ℕ → List PlanRow) (b : Bool) → AnswersRoom b old new → b ≡ false → (q : ℕ) → IsErrOf {T = Unit {0}} (Err Full) Full ↔ (256 < length (plan_of (old ++ new q)))
is_full old new b e h q = (λ _. leb-false (length (plan_of (old ++ new q))) 256 (sym (e q) ∙ h), λ _. refl)

pub not_refused : (n : ℕ) → n ≤ 256 → IsErrOf {T = Unit {0}} {E = PlanFault} (Ok tt) Full ↔ (256 < n)
not_refused n few = (λ e. absurd cc, λ many. absurd (omega arith))

pub out_of_memory : (r : Result (Unit {0}) PlanFault) (n : ℕ) → n ≤ 256 → IsErr r × IsErrAnd r (λ e. e ≡ Memory) → IsErrOf r Full ↔ (256 < n)
out_of_memory (Ok u) n few h = absurd cc
out_of_memory (Err x) n few h = (λ e. let memory : x ≡ Memory = h.1 in absurd cc, λ many. absurd (omega arith))

pub is_same_plan : {old new : List PlanRow} → old ≡ new → IsPlan old → IsPlan new
is_same_plan e plan = subst IsPlan e plan
