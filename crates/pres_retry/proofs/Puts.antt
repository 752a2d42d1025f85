-- A map after a change, as one `put` on its entries.
use Rattle.std.proofs.Common.{◌≡◌, List, [], ◌∷◌, cond, Some, Ordering, Less, Equal, Greater, is_eq, refl, ap}
use Rattle.std.specs.Cmp.{IsTotalOrder}
use Rattle.std.specs.Map.{keys_of, lookup, set_value}
use Rattle.std.specs.BTreeMap.{is_at, insert_entry}
use Rattle.std.specs.Ordering.{match_ordering}
use Rattle.std.specs.List.Sorted.{IsStrictlySortedBy}
use Rattle.std.specs.FinMap.Entries.{find, put, by_order}
use Rattle.std.proofs.lemmas.Map.{lookup-none}
use Rattle.std.proofs.lemmas.Map.Entries.{none_below_head}
use Rattle.std.proofs.lemmas.Map.Keys.{sorted_tail}

module _ {K X : Type 0} (R : K → K → Ordering) where
  pub find_lookup : (k : K) (es : List (K × X)) → find R k es ≡ lookup (is_at (R k)) es
  find_lookup k [] = refl
  find_lookup k (e ∷ es) = ap (λ later. cond (is_eq (R k e.0)) (Some e.1) later) (find_lookup k es)

  pub put_insert : (k : K) (v : X) (es : List (K × X)) → insert_entry R es k v ≡ put R k v es
  put_insert k v [] = refl
  put_insert k v (e ∷ es) = by (R k e.0) (put_insert k v es) where
    by : (o : Ordering) → insert_entry R es k v ≡ put R k v es
        → match_ordering o ((k, v) ∷ e ∷ es) ((e.0, v) ∷ es) (e ∷ insert_entry R es k v) ≡ by_order o ((k, v) ∷ e ∷ es) ((e.0, v) ∷ es) (e ∷ put R k v es)
    by Less later = refl
    by Equal later = refl
    by Greater later = ap (λ rest. e ∷ rest) later

  -- a new value at a key that the map has
  pub put_known : IsTotalOrder R → (k : K) (v old : X) (es : List (K × X)) → IsStrictlySortedBy R (keys_of es) → lookup (is_at (R k)) es ≡ Some old
      → set_value (is_at (R k)) es v ≡ put R k v es
  put_known total k v old [] sorted known = absurd (cc)
  put_known total k v old (e ∷ es) sorted known = by (R k e.0) refl known (put_known total k v old es (sorted_tail R e.0 (keys_of es) sorted)) where
    by : (o : Ordering) → R k e.0 ≡ o → cond (is_eq o) (Some e.1) (lookup (is_at (R k)) es) ≡ Some old
        → (lookup (is_at (R k)) es ≡ Some old → set_value (is_at (R k)) es v ≡ put R k v es)
        → cond (is_eq o) ((e.0, v) ∷ es) (e ∷ set_value (is_at (R k)) es v) ≡ by_order o ((k, v) ∷ e ∷ es) ((e.0, v) ∷ es) (e ∷ put R k v es)
    by Less below found later = absurd (let none = lookup-none (is_at (R k)) es (none_below_head total k e es sorted below).1 in cc)
    by Equal here found later = refl
    by Greater above found later = ap (λ rest. e ∷ rest) (later found)
