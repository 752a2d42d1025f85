-- Rows are a plan where none is covered by a later one and each matters.
use Rattle.std.proofs.Common.{refl, sym, ◌∙◌, ap, subst, ◌≡◌, ℕ, suc, ◌+◌, ◌<◌, ◌≤◌, arith, length, filter, List, [], ◌∷◌, Bool, true, false, cond, not, ◌&&◌, true≢false}
use Rattle.std.specs.List.{list_all}
use Rattle.pres_plan.specs.declared.row.PlanRow.{PlanRow}
use Rattle.std.specs.Cmp.{IsTotalOrder, then_total, on_total, nat_cmp_total}
use Rattle.pres_tree.specs.Falls.{path_total}
use Rattle.pres_plan.specs.Plans.{is_left, lasting, matters, path_of, plan_of, row_cmp}
use Rattle.pres_base.specs.InternalRows.{none_covered}

both : (a b : Bool) → (a && b) ≡ true → (a ≡ true) × (b ≡ true)
both true b h = (refl, h)
both false b h = absurd (true≢false (sym h))

-- ---- all that pass

kept_all : {X : Type 0} (p : X → Bool) (xs : List X) → list_all p xs ≡ true → filter p xs ≡ xs
kept_all p [] h = refl
kept_all p (x ∷ xs) h =
    let parts = both (p x) (list_all p xs) h in
    ap (λ b. cond b (x ∷ filter p xs) (filter p xs)) parts.0 ∙ ap (λ l. x ∷ l) (kept_all p xs parts.1)

kept_few : {X : Type 0} (p : X → Bool) (xs : List X) → length (filter p xs) ≤ length xs
kept_few p [] = omega arith
kept_few p (x ∷ xs) = elim (p x) as (λ b. length (cond b (x ∷ filter p xs) (filter p xs)) ≤ suc (length xs)) [
  | true ↦ omega (arith, kept_few p xs)
  | false ↦ omega (arith, kept_few p xs)
]

all_kept : {X : Type 0} (p : X → Bool) (xs : List X) → length xs ≤ length (filter p xs) → list_all p xs ≡ true
all_kept p [] h = refl
all_kept p (x ∷ xs) h = elim (p x) as (λ b. suc (length xs) ≤ length (cond b (x ∷ filter p xs) (filter p xs)) → (b && list_all p xs) ≡ true) [
  | true ↦ λ l. all_kept p xs (omega (arith, l))
  | false ↦ λ l. absurd (omega (arith, l, kept_few p xs))
] h

-- ---- rows that no later one covers

lasting_all : (rows : List PlanRow) → none_covered rows ≡ true → lasting rows ≡ rows
lasting_all [] h = refl
lasting_all (row ∷ later) h =
    let parts = both (is_left later row) (none_covered later) h in
    ap (λ b. cond b (row ∷ lasting later) (lasting later)) parts.0 ∙ ap (λ l. row ∷ l) (lasting_all later parts.1)

lasting_few : (rows : List PlanRow) → length (lasting rows) ≤ length rows
lasting_few [] = omega arith
lasting_few (row ∷ later) = elim (is_left later row) as (λ b. length (cond b (row ∷ lasting later) (lasting later)) ≤ suc (length later)) [
  | true ↦ omega (arith, lasting_few later)
  | false ↦ omega (arith, lasting_few later)
]

all_lasting : (rows : List PlanRow) → length rows ≤ length (lasting rows) → none_covered rows ≡ true
all_lasting [] h = refl
all_lasting (row ∷ later) h = elim (is_left later row) as (λ b. suc (length later) ≤ length (cond b (row ∷ lasting later) (lasting later)) → (b && none_covered later) ≡ true) [
  | true ↦ λ l. all_lasting later (omega (arith, l))
  | false ↦ λ l. absurd (omega (arith, l, lasting_few later))
] h

-- ---- plans

pub whole_plan : (rows : List PlanRow) → none_covered rows ≡ true → list_all (matters rows) rows ≡ true → plan_of rows ≡ rows
whole_plan rows uncovered matter = ap (λ left. filter (matters left) left) (lasting_all rows uncovered) ∙ kept_all (matters rows) rows matter

pub uncovered_plan : (rows : List PlanRow) → plan_of rows ≡ rows → none_covered rows ≡ true
uncovered_plan rows whole = all_lasting rows (omega (arith, ap length whole, kept_few (matters (lasting rows)) (lasting rows)))

pub mattering_plan : (rows : List PlanRow) → plan_of rows ≡ rows → list_all (matters rows) rows ≡ true
mattering_plan rows whole =
    let left = lasting_all rows (uncovered_plan rows whole) in
    all_kept (matters rows) rows (omega (arith, ap length (sym whole ∙ ap (λ l. filter (matters l) l) left)))

-- ---- order

pub row_total : IsTotalOrder row_cmp
row_total = then_total (on_total (λ (r : PlanRow). r.q) nat_cmp_total) (on_total (λ (r : PlanRow). path_of r.action) path_total)
