-- What a search by halves finds in a list that is in the order of its keys.
use Rattle.std.proofs.Common.{refl, sym, ◌∙◌, ap, subst, ◌≡◌, ℕ, zero, suc, ◌+◌, ◌<◌, ◌≤◌, arith, length, get_or, List, [], ◌∷◌, map, Bool, true, false, cond, Option, Some, None, Ordering, Less, Equal, Greater, is_eq, is_lt, ltb}
use Rattle.std.proofs.lemmas.Bool.{ltb-true, ltb-false}
use Rattle.std.specs.List.Sorted.{IsStrictlySortedBy, IsNonDecreasingBy}
use Rattle.std.specs.Cmp.{IsTotalOrder}
use Rattle.std.specs.Cmp.Lexicographic.{nat_list_cmp_total}
use Rattle.std.specs.FinMap.{slice_cmp-IsAntisymmetric, nat_cmp-IsAntisymmetric}
use Rattle.std.specs.FinMap.Entries.{find}
use Rattle.std.specs.Ordering.{ordering_reverse, ordering_index}
use Rattle.std.proofs.lemmas.List.Sorted.{searchable_from_sorted}
use Rattle.std.proofs.lemmas.Map.Keys.{Less-from_sorted}
use Rattle.pres_ids.specs.Ids.{ClientId, client_cmp}
use Rattle.pres_base.specs.declared.parts.ClientPart.{ClientPart}
use Rattle.pres_base.specs.Bases.{last_in}

abbrev Clients : Type 0
Clients = List ClientPart

abbrev InOrder : Clients → Type 0
InOrder clients = IsStrictlySortedBy client_cmp (map (λ c. c.id) clients)

total : IsTotalOrder client_cmp
total = nat_list_cmp_total

same : (a b : ClientId) → client_cmp a b ≡ Equal → a ≡ b
same a b tie = slice_cmp-IsAntisymmetric nat_cmp-IsAntisymmetric a b tie

keyed : (xs : Clients) (k : ℕ) (d : ClientPart) → get_or (map (λ c. c.id) xs) k d.id ≡ (get_or xs k d).id
keyed [] k d = refl
keyed (x ∷ xs) zero d = refl
keyed (x ∷ xs) (suc k) d = keyed xs k d

mapped : (xs : Clients) → length (map (λ c. c.id) xs) ≡ length xs
mapped [] = refl
mapped (x ∷ xs) = ap suc (mapped xs)

-- clients in order rise
rise : (xs : Clients) → InOrder xs → (i j : ℕ) (d : ClientPart) → i < j → j < length xs → client_cmp (get_or xs i d).id (get_or xs j d).id ≡ Less
rise xs sorted i j d l m =
    (λ t. client_cmp (sym (keyed xs i d) t) (sym (keyed xs j d) t))
    ∙ Less-from_sorted client_cmp (map (λ c. c.id) xs) i j d.id sorted l (subst (λ n. j < n) (sym (mapped xs)) m)

-- where a search may look
pub searchable : (xs : Clients) (q : ClientId) → InOrder xs → IsNonDecreasingBy (λ c. ordering_index (client_cmp c.id q)) xs
searchable xs q sorted =
    searchable_from_sorted total (λ c. c.id) xs q
    (λ k d low high. ap is_lt (total.antisymm (get_or xs (k + 1) d).id (get_or xs k d).id ∙ ap ordering_reverse (rise xs sorted k (k + 1) d (omega arith) high)))

-- the client at the place is the one that is looked for
pub found_at : (q : ClientId) (xs : Clients) (i : ℕ) → InOrder xs → i < length xs → ((d : ClientPart) → client_cmp (get_or xs i d).id q ≡ Equal) → (d : ClientPart) → last_in q xs ≡ Some (get_or xs i d).last
unfolding IsStrictlySortedBy
found_at q [] i sorted low tie d = absurd (omega (arith, low))
found_at q (x ∷ xs) zero sorted low tie d =
    ap (λ r. cond (is_eq r) (Some x.last) (last_in q xs)) (total.antisymm q x.id ∙ ap ordering_reverse (tie x))
found_at q (x ∷ xs) (suc i) sorted low tie d =
    ap (λ r. cond (is_eq r) (Some x.last) (last_in q xs)) (total.antisymm q x.id ∙ ap ordering_reverse (subst (λ k. client_cmp x.id k ≡ Less) (same (get_or xs i x).id q (tie x)) (rise (x ∷ xs) sorted 0 (suc i) x (omega arith) low)))
    ∙ found_at q xs i sorted.1 (omega (arith, low)) tie d

-- no client is the one that is looked for
pub not_found : (q : ClientId) (xs : Clients) → ((k : ℕ) (d : ClientPart) → k < length xs → is_eq (client_cmp (get_or xs k d).id q) ≡ false) → last_in q xs ≡ None
not_found q [] none = refl
not_found q (x ∷ xs) none =
    ap (λ b. cond b (Some x.last) (last_in q xs)) (ap is_eq (total.antisymm q x.id) ∙ turned (client_cmp x.id q) (none 0 x (omega arith)))
    ∙ not_found q xs (λ k d l. none (suc k) d (omega (arith, l)))
  where
    turned : (o : Ordering) → is_eq o ≡ false → is_eq (ordering_reverse o) ≡ false
    turned Less h = refl
    turned Equal h = h
    turned Greater h = refl

-- a search that ends between two clients
pub goes_between : (q : ClientId) (xs : Clients) (at : ℕ) → ((k : ℕ) (d : ClientPart) → 0 ≤ k → k < at → client_cmp (get_or xs k d).id q ≡ Less) → ((k : ℕ) (d : ClientPart) → at ≤ k → k < length xs → client_cmp (get_or xs k d).id q ≡ Greater) → last_in q xs ≡ None
goes_between q xs at less more = not_found q xs (λ k d l. elim (ltb k at) as (λ b. ltb k at ≡ b → is_eq (client_cmp (get_or xs k d).id q) ≡ false) [
  | true ↦ λ t. ap is_eq (less k d (omega arith) (ltb-true k at t))
  | false ↦ λ t. ap is_eq (more k d (ltb-false k at t) l)
] refl)
