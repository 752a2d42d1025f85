-- Sessions in a list in order: where a search ends, one session more, and one less.
use Rattle.std.proofs.Common.{refl, sym, ◌∙◌, ap, ◌≡◌, ℕ, ◌+◌, ◌<◌, ◌≤◌, zero, suc, arith, length, get_or, List, [], ◌∷◌, filter, Bool, true, false, not, cond, ◌||◌, ◌&&◌, true≢false, Result, Ok, Err, Less, Equal, Greater, is_lt}
use Rattle.std.specs.List.{list_any, insert, remove}
use Rattle.std.specs.List.Sorted.{IsStrictlySortedBy, IsNonDecreasingBy, IsSearchInRange, IsBinarySearchResult}
use Rattle.std.specs.BTreeSet.{insert_key}
use Rattle.std.specs.Cmp.{both_ways}
use Rattle.std.specs.Ordering.{match_ordering, ordering_reverse, ordering_index}
use Rattle.std.proofs.lemmas.List.Sorted.{searchable_from_sorted}
use Rattle.std.proofs.lemmas.List.Kept.{IsStrictlySortedBy-filter}
use Rattle.std.proofs.lemmas.Map.Keys.{sorted_head, sorted_tail, Less-from_sorted}
use Rattle.pres_ids.specs.Ids.{same_session}
use Rattle.pres_ids.specs.declared.id.SessionId.{SessionId}
use Rattle.pres_fan.specs.Listeners.{session_cmp}
use Rattle.pres_fan.proofs.Orders.{session_total, session_apart, session_same, session_itself}
use Rattle.pres_fan.proofs.Lists.{all_then, filter_all, any_with, put_rises, any_filtered}
use Rattle.pres_fan.proofs.Places.{less_apart, flip}

pub none_sorted : IsStrictlySortedBy session_cmp []
unfolding IsStrictlySortedBy
none_sorted = tt

-- compared with a session, the sessions of a list in order rise
pub searchable : (xs : List SessionId) (x : SessionId) → IsStrictlySortedBy session_cmp xs → IsNonDecreasingBy (λ y. ordering_index (session_cmp y x)) xs
searchable xs x sorted =
    searchable_from_sorted session_total (λ s. s) xs x
    (λ k d low high. ap is_lt (session_total.antisymm (get_or xs (k + 1) d) (get_or xs k d) ∙ ap ordering_reverse (Less-from_sorted session_cmp xs k (k + 1) d sorted (omega arith) high)))

-- ---- one more

-- a session that goes after the lesser ones and before the greater ones is put in order
pub put_at : (x : SessionId) (xs : List SessionId) (at : ℕ) → at ≤ length xs →
    ((k : ℕ) (d : SessionId) → 0 ≤ k → k < at → session_cmp (get_or xs k d) x ≡ Less) →
    ((k : ℕ) (d : SessionId) → at ≤ k → k < length xs → session_cmp (get_or xs k d) x ≡ Greater) →
    insert xs at x ≡ insert_key session_cmp xs x
put_at x [] zero le less more = refl
put_at x [] (suc at) le less more = absurd (omega (arith, le))
put_at x (y ∷ ys) zero le less more =
    sym (ap (λ o. match_ordering o (x ∷ y ∷ ys) (y ∷ ys) (y ∷ insert_key session_cmp ys x)) (session_total.antisymm x y ∙ ap ordering_reverse (more 0 x (omega arith) (omega arith))))
put_at x (y ∷ ys) (suc at) le less more =
    ap (λ l. y ∷ l) (put_at x ys at (omega (arith, le)) (λ k d low high. less (suc k) d (omega arith) (omega (arith, high))) (λ k d low high. more (suc k) d (omega (arith, low)) (omega (arith, high))))
    ∙ sym (ap (λ o. match_ordering o (x ∷ y ∷ ys) (y ∷ ys) (y ∷ insert_key session_cmp ys x)) (session_total.antisymm x y ∙ ap ordering_reverse (less 0 x (omega arith) (omega arith))))

pub put_sorted : (x : SessionId) (xs : List SessionId) → IsStrictlySortedBy session_cmp xs → IsStrictlySortedBy session_cmp (insert_key session_cmp xs x)
put_sorted x xs o = put_rises session_cmp session_total x xs o

session_flip : (s t : SessionId) → same_session s t ≡ same_session t s
session_flip s t = both_ways _ _ (one s t) (one t s) where
  one : (s t : SessionId) → same_session s t ≡ true → same_session t s ≡ true
  one s t e = ap (λ u. same_session u s) (sym (session_same s t e)) ∙ session_itself s

pub any_put : (x s : SessionId) (xs : List SessionId) → list_any (same_session s) (insert_key session_cmp xs x) ≡ (same_session x s || list_any (same_session s) xs)
any_put x s xs =
    any_with session_cmp x (same_session s) (λ y t e. ap (same_session s) (sym (session_apart x y t)) ∙ e) xs
    ∙ ap (λ b. b || list_any (same_session s) xs) (session_flip s x)

-- a session that is there is found where it is put once more
pub there : (x : SessionId) (xs : List SessionId) (at : ℕ) → at < length xs → ((d : SessionId) → session_cmp (get_or xs at d) x ≡ Equal) → list_any (same_session x) xs ≡ true
there x [] at less is = absurd (omega (arith, less))
there x (y ∷ ys) zero less is = ap (λ b. b || list_any (same_session x) ys) (ap (λ u. same_session u y) (sym (session_apart y x (is x))) ∙ session_itself y)
there x (y ∷ ys) (suc at) less is = by (same_session x y) (there x ys at (omega (arith, less)) is) where
  by : (b : Bool) → list_any (same_session x) ys ≡ true → (b || list_any (same_session x) ys) ≡ true
  by true h = refl
  by false h = h

pub added_there : (x s : SessionId) (xs : List SessionId) → list_any (same_session x) xs ≡ true → list_any (same_session s) xs ≡ (same_session x s || list_any (same_session s) xs)
added_there x s xs h = by (same_session x s) refl where
  by : (b : Bool) → same_session x s ≡ b → list_any (same_session s) xs ≡ (b || list_any (same_session s) xs)
  by true e = ap (λ u. list_any (same_session u) xs) (sym (session_same x s e)) ∙ h
  by false e = refl

pub some_there : (x : SessionId) (xs : List SessionId) → list_any (same_session x) xs ≡ true → 0 < length xs
some_there x [] h = absurd (true≢false (sym h))
some_there x (y ∷ ys) h = omega arith

-- ---- one less

pub remove_at : (x : SessionId) (xs : List SessionId) (at : ℕ) → IsStrictlySortedBy session_cmp xs → at < length xs → ((d : SessionId) → session_cmp (get_or xs at d) x ≡ Equal) →
    remove xs at ≡ filter (λ y. not (same_session x y)) xs
remove_at x [] at sorted less is = absurd (omega (arith, less))
remove_at x (y ∷ ys) zero sorted less is =
    let same : y ≡ x = session_apart y x (is x) in
    let here : same_session x y ≡ true = ap (λ u. same_session u y) (sym same) ∙ session_itself y in
    sym (filter_all (λ z. not (same_session x z)) ys
    (all_then (λ z. session_cmp y z ≡ Less) (λ z. not (same_session x z) ≡ true) (λ z l. ap not (less_apart x z (ap (λ u. session_cmp u z) (sym same) ∙ l))) ys (sorted_head session_cmp y ys sorted)))
    ∙ sym (ap (λ b. cond (not b) (y ∷ filter (λ z. not (same_session x z)) ys) (filter (λ z. not (same_session x z)) ys)) here)
remove_at x (y ∷ ys) (suc at) sorted less is =
    let same : get_or ys at y ≡ x = session_apart (get_or ys at y) x (is y) in
    let first : session_cmp y (get_or ys at y) ≡ Less = Less-from_sorted session_cmp (y ∷ ys) 0 (suc at) y sorted (omega arith) less in
    let apart : same_session x y ≡ false = flip y x (less_apart y x (ap (session_cmp y) (sym same) ∙ first)) in
    ap (λ l. y ∷ l) (remove_at x ys at (sorted_tail session_cmp y ys sorted) (omega (arith, less)) is)
    ∙ sym (ap (λ b. cond (not b) (y ∷ filter (λ z. not (same_session x z)) ys) (filter (λ z. not (same_session x z)) ys)) apart)

pub left_sorted : (x : SessionId) (xs : List SessionId) → IsStrictlySortedBy session_cmp xs → IsStrictlySortedBy session_cmp (filter (λ y. not (same_session x y)) xs)
left_sorted x xs o = IsStrictlySortedBy-filter session_cmp (λ y. not (same_session x y)) xs o

pub any_left : (x s : SessionId) (xs : List SessionId) → list_any (same_session s) (filter (λ y. not (same_session x y)) xs) ≡ (not (same_session x s) && list_any (same_session s) xs)
any_left x s xs = any_filtered (same_session s) (λ y. not (same_session x y)) (not (same_session x s)) (λ y e. ap (λ u. not (same_session x u)) (sym (session_same s y e))) xs

-- a session that is not there
absent : (x s : SessionId) (xs : List SessionId) → list_any (same_session x) xs ≡ false → list_any (same_session s) xs ≡ (not (same_session x s) && list_any (same_session s) xs)
absent x s xs h = by (same_session x s) refl where
  by : (b : Bool) → same_session x s ≡ b → list_any (same_session s) xs ≡ (not b && list_any (same_session s) xs)
  by true e = ap (λ u. list_any (same_session u) xs) (sym (session_same x s e)) ∙ h
  by false e = refl

-- none is the session where each is lesser or greater
none_between : (x : SessionId) (xs : List SessionId) (at : ℕ) → at ≤ length xs →
    ((k : ℕ) (d : SessionId) → 0 ≤ k → k < at → session_cmp (get_or xs k d) x ≡ Less) →
    ((k : ℕ) (d : SessionId) → at ≤ k → k < length xs → session_cmp (get_or xs k d) x ≡ Greater) → list_any (same_session x) xs ≡ false
none_between x [] at le less more = refl
none_between x (y ∷ ys) zero le less more =
    λ i. (less_apart x y (session_total.antisymm x y ∙ ap ordering_reverse (more 0 x (omega arith) (omega arith))) i)
    || none_between x ys zero (omega arith) (λ k d low high. absurd (omega (arith, high))) (λ k d low high. more (suc k) d (omega arith) (omega (arith, high))) i
none_between x (y ∷ ys) (suc at) le less more =
    λ i. (flip y x (less_apart y x (less 0 x (omega arith) (omega arith))) i)
    || none_between x ys at (omega (arith, le)) (λ k d low high. less (suc k) d (omega arith) (omega (arith, high))) (λ k d low high. more (suc k) d (omega (arith, low)) (omega (arith, high))) i

pub absent_between : (x s : SessionId) (xs : List SessionId) (at : ℕ) → at ≤ length xs →
    ((k : ℕ) (d : SessionId) → 0 ≤ k → k < at → session_cmp (get_or xs k d) x ≡ Less) →
    ((k : ℕ) (d : SessionId) → at ≤ k → k < length xs → session_cmp (get_or xs k d) x ≡ Greater) → list_any (same_session s) xs ≡ (not (same_session x s) && list_any (same_session s) xs)
absent_between x s xs at le less more = absent x s xs (none_between x xs at le less more)

-- ---- where a search ends

-- it ends at the session
pub found_by : (x : SessionId) (xs : List SessionId) (r : Result ℕ ℕ) → ((i : ℕ) → r ≡ Err i → ⊥) → IsSearchInRange r (length xs) → IsBinarySearchResult (λ y. session_cmp y x) xs r → list_any (same_session x) xs ≡ true
found_by x xs (Ok at) ne less is = there x xs at less is
found_by x xs (Err at) ne le parted = absurd (ne at refl)

-- or where it would stand
pub not_found_by : (x s : SessionId) (xs : List SessionId) (r : Result ℕ ℕ) → ((i : ℕ) → r ≡ Ok i → ⊥) → IsStrictlySortedBy session_cmp xs →
    IsSearchInRange r (length xs) → IsBinarySearchResult (λ y. session_cmp y x) xs r → list_any (same_session s) xs ≡ (not (same_session x s) && list_any (same_session s) xs)
not_found_by x s xs (Ok at) ne sorted less is = absurd (ne at refl)
not_found_by x s xs (Err at) ne sorted le parted =
    let parts = parted (searchable xs x sorted) in
    absent_between x s xs at le parts.0 parts.1
