-- Whether a client id stands twice.
use Rattle.std.proofs.Common.{◌≡◌, ◌↔◌, ◌∷◌, [], ℕ, suc, zero, List, Bool, true, false, Some, refl, sym, ap, ◌∙◌, arith, ◌||◌, true≢false, unwrap_or, is_some}
use Rattle.std.specs.Prelude.{◌==◌, slice_get}
use Rattle.std.specs.List.{list_any}
use Rattle.std.specs.Cmp.Lexicographic.{pointwise, bytes_decides}
use Rattle.pres_ids.specs.Ids.{ClientId}
use Rattle.pres_world.specs.Distinct.{AreDistinct}

abbrev has : ClientId → List ClientId → Bool
has x xs = list_any (λ y. pointwise ◌==◌ y x) xs

-- an id that is found stands at a place
found : (x : ClientId) (xs : List ClientId) → has x xs ≡ true → (k : ℕ) × (slice_get xs k ≡ Some x)
found x [] h = absurd (true≢false (sym h))
found x (y ∷ ys) h = by (pointwise ◌==◌ y x) refl h (found x ys)
  where
    by : (b : Bool) → pointwise ◌==◌ y x ≡ b → (b || has x ys) ≡ true → (has x ys ≡ true → (k : ℕ) × (slice_get ys k ≡ Some x)) → (k : ℕ) × (slice_get (y ∷ ys) k ≡ Some x)
    by true e h later = (0, ap Some ((bytes_decides y x).0 e))
    by false e h later = let k = later h in (suc k.0, k.1)

-- and one that isn't found at none
missed : (x : ClientId) (xs : List ClientId) → has x xs ≡ false → (k : ℕ) → slice_get xs k ≡ Some x → ⊥
missed x [] h k is = absurd (true≢false (ap is_some (sym is)))
missed x (y ∷ ys) h k is = by (pointwise ◌==◌ y x) refl h (missed x ys) k is
  where
    by : (b : Bool) → pointwise ◌==◌ y x ≡ b → (b || has x ys) ≡ false → (has x ys ≡ false → (k : ℕ) → slice_get ys k ≡ Some x → ⊥) → (k : ℕ) → slice_get (y ∷ ys) k ≡ Some x → ⊥
    by true e h later k is = true≢false h
    by false e h later zero is = true≢false (sym ((bytes_decides y x).1 (ap (λ o. unwrap_or o x) is)) ∙ e)
    by false e h later (suc k) is = later h k is

-- the first stands again: not all are distinct
pub first_again : (x : ClientId) (xs : List ClientId) → has x xs ≡ true → AreDistinct (x ∷ xs) → ⊥
first_again x xs h distinct = let k = found x xs h in absurd (omega (arith, distinct.once 0 (suc k.0) x refl k.1))

-- the first doesn't stand again: all are distinct where the others are
pub first_once : (x : ClientId) (xs : List ClientId) → has x xs ≡ false → AreDistinct xs ↔ AreDistinct (x ∷ xs)
first_once x xs h = (λ distinct. record { once = with_first distinct }, λ distinct. record { once = λ i j id at_i at_j. let e = distinct.once (suc i) (suc j) id at_i at_j in omega (arith, e) })
  where
    with_first : AreDistinct xs → (i j : ℕ) (id : ClientId) → slice_get (x ∷ xs) i ≡ Some id → slice_get (x ∷ xs) j ≡ Some id → i ≡ j
    with_first distinct zero zero id at_i at_j = refl
    with_first distinct zero (suc j) id at_i at_j = absurd (missed x xs h j (at_j ∙ sym at_i))
    with_first distinct (suc i) zero id at_i at_j = absurd (missed x xs h i (at_i ∙ sym at_j))
    with_first distinct (suc i) (suc j) id at_i at_j = ap suc (distinct.once i j id at_i at_j)

pub none_twice : AreDistinct []
none_twice = record { once = λ i j id at_i at_j. absurd (true≢false (ap is_some (sym at_i))) }
