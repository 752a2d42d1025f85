-- A key that is put in its place leaves a sorted list sorted.
use Rattle.std.proofs.Common.{refl, ◌∙◌, ap, ◌≡◌, List, [], ◌∷◌, Ordering, Less, Equal, Greater}
use Rattle.std.specs.List.{AllByRecursion}
use Rattle.std.specs.List.Sorted.{IsStrictlySortedBy}
use Rattle.std.specs.Ordering.{match_ordering, ordering_reverse}
use Rattle.std.specs.Cmp.{IsTotalOrder}
use Rattle.std.specs.BTreeSet.{insert_key}
use Rattle.std.proofs.lemmas.Map.Keys.{sorted_head, sorted_tail}

module _ {K : Type 0} (cmp : K → K → Ordering) (total : IsTotalOrder cmp) where
  abbrev Above : K → List K → Type 0
  Above x ys = AllByRecursion (λ y. cmp x y ≡ Less) ys

  higher : (k x : K) (xs : List K) → cmp k x ≡ Less → Above x xs → Above k xs
  higher k x [] h a = tt
  higher k x (y ∷ ys) h a = (total.trans k x y h a.0, higher k x ys h a.1)

  above_put : (x k : K) (xs : List K) → cmp x k ≡ Less → Above x xs → Above x (insert_key cmp xs k)
  above_put x k [] h a = (h, tt)
  above_put x k (y ∷ ys) h a = by (cmp k y) (above_put x k ys h a.1) where
    by : (o : Ordering) → Above x (insert_key cmp ys k) → Above x (match_ordering o (k ∷ y ∷ ys) (y ∷ ys) (y ∷ insert_key cmp ys k))
    by Less r = (h, a)
    by Equal r = a
    by Greater r = (a.0, r)

  sorted_cons : (x : K) (xs : List K) → Above x xs → IsStrictlySortedBy cmp xs → IsStrictlySortedBy cmp (x ∷ xs)
  unfolding IsStrictlySortedBy
  sorted_cons x xs a h = (a, h)

  sorted_nil : IsStrictlySortedBy cmp []
  unfolding IsStrictlySortedBy
  sorted_nil = tt

  pub sorted_put : (k : K) (xs : List K) → IsStrictlySortedBy cmp xs → IsStrictlySortedBy cmp (insert_key cmp xs k)
  sorted_put k [] h = sorted_cons k [] tt sorted_nil
  sorted_put k (x ∷ xs) h = by (cmp k x) refl (sorted_put k xs (sorted_tail cmp x xs h)) where
    by : (o : Ordering) → cmp k x ≡ o → IsStrictlySortedBy cmp (insert_key cmp xs k) → IsStrictlySortedBy cmp (match_ordering o (k ∷ x ∷ xs) (x ∷ xs) (x ∷ insert_key cmp xs k))
    by Less e r = sorted_cons k (x ∷ xs) (e, higher k x xs e (sorted_head cmp x xs h)) h
    by Equal e r = h
    by Greater e r = sorted_cons x (insert_key cmp xs k) (above_put x k xs (total.antisymm x k ∙ ap ordering_reverse e) (sorted_head cmp x xs h)) r
