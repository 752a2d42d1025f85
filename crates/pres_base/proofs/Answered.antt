-- What a check of a list answers: true exactly where each item passes, or where each stands before the next.
use Rattle.std.proofs.Common.{refl, sym, ◌∙◌, ap, subst, ◌≡◌, ℕ, zero, suc, ◌+◌, ◌<◌, arith, length, get_or, List, [], ◌∷◌, map, Bool, true, false, true≢false, Ordering, Less, Equal, Greater, is_lt}
use Rattle.std.specs.Prelude.{◌↔◌, IsTrue, All, MatchBool}
use Rattle.std.specs.List.{AllWithin, HoldsAt, IsAllAdjacentAnswer}
use Rattle.std.specs.List.Sorted.{IsStrictlySortedBy}
use Rattle.std.specs.Cmp.{IsTotalOrder}
use Rattle.std.proofs.lemmas.Map.Keys.{sorted_from_all_adjacent, Less-from_sorted}

pub each_passes : {X : Type 0} (P : X → Type 0) (xs : List X) (r : Bool)
    → MatchBool r (AllWithin P xs 0 (length xs)) ((k : ℕ) × (k < length xs) × HoldsAt (λ x. P x → ⊥) xs k)
    → IsTrue r ↔ All P xs
each_passes P xs true h = ((λ t. λ k d l. h k d (omega arith) l), (λ a. refl))
each_passes P [] false h = absurd (omega (arith, h.1))
each_passes P (x ∷ xs) false h = ((λ t. absurd (true≢false (sym t))), (λ a. absurd (h.2 x (a h.0 x h.1))))

less : (o : Ordering) → is_lt o ≡ true → o ≡ Less
less Less h = refl
less Equal h = absurd (true≢false (sym h))
less Greater h = absurd (true≢false (sym h))

module _ {X K : Type 0} (R : K → K → Ordering) (o : IsTotalOrder R) (key : X → K) where
  -- the keys of an item and of the next
  next : (xs : List X) (k : ℕ) (d : X) → R (get_or (map key xs) k (key d)) (get_or (map key xs) (k + 1) (key d)) ≡ R (key (get_or xs k d)) (key (get_or xs (k + 1) d))
  next xs k d = λ i. R (keyed xs k d i) (keyed xs (k + 1) d i) where
    keyed : (xs : List X) (k : ℕ) (d : X) → get_or (map key xs) k (key d) ≡ key (get_or xs k d)
    keyed [] k d = refl
    keyed (x ∷ xs) zero d = refl
    keyed (x ∷ xs) (suc k) d = keyed xs k d

  mapped : (xs : List X) → length (map key xs) ≡ length xs
  mapped [] = refl
  mapped (x ∷ xs) = ap suc (mapped xs)

  pub in_order : (xs : List X) (r : Bool) → IsAllAdjacentAnswer (λ x y b. b ≡ is_lt (R (key x) (key y))) xs r → IsTrue r ↔ IsStrictlySortedBy R (map key xs)
  unfolding IsStrictlySortedBy
  in_order [] true h = ((λ t. tt), (λ s. refl))
  in_order (x ∷ xs) true h =
      ((λ t. sorted_from_all_adjacent o (map key (x ∷ xs)) (key x) (λ k l. next (x ∷ xs) k x ∙ less _ (sym (h k x (subst (λ n. k + 1 < n) (mapped (x ∷ xs)) l))))), (λ s. refl))
  in_order [] false h = absurd (omega (arith, h.1))
  in_order (x ∷ xs) false h =
      let k = h.0 in (
        (λ t. absurd (true≢false (sym t))),
        (λ s. absurd (true≢false (
            ap is_lt (sym (Less-from_sorted R (map key (x ∷ xs)) k (k + 1) (key x) s (omega arith) (subst (λ n. k + 1 < n) (sym (mapped (x ∷ xs))) h.1)) ∙ next (x ∷ xs) k x)
            ∙ sym (h.2 x)))),
      )

itself : {X : Type 0} (xs : List X) → map (λ x. x) xs ≡ xs
itself [] = refl
itself (x ∷ xs) = ap (λ l. x ∷ l) (itself xs)

-- of items that are their own keys
pub in_order_itself : {X : Type 0} (R : X → X → Ordering) (o : IsTotalOrder R) (xs : List X) (r : Bool) → IsAllAdjacentAnswer (λ x y b. b ≡ is_lt (R x y)) xs r → IsTrue r ↔ IsStrictlySortedBy R xs
in_order_itself R o xs r h = subst (λ ks. IsTrue r ↔ IsStrictlySortedBy R ks) (itself xs) (in_order R o (λ x. x) xs r h)
