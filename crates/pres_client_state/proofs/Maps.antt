-- The calls of a map, as what they are on the list of its entries.
use Rattle.std.proofs.Common.{ℕ, ◌≡◌, Bool, true, false, not, List, [], ◌∷◌, cond, Some, Ordering, Less, Equal, Greater, is_eq, filter, refl, sym, ◌∙◌, ap}
use Rattle.std.specs.Prelude.{◌==◌}
use Rattle.std.specs.Cmp.{IsTotalOrder, eq_by_cmp_equiv, unsigned_ties}
use Rattle.std.specs.Map.{keys_of, lookup, set_value, remove_entry}
use Rattle.std.specs.BTreeMap.{is_at, insert_entry}
use Rattle.std.specs.Ordering.{match_ordering, eq_by_cmp, nat_cmp}
use Rattle.std.specs.List.Sorted.{IsStrictlySortedBy}
use Rattle.std.specs.FinMap.Entries.{find, put, by_order}
use Rattle.std.proofs.lemmas.Map.{NonePasses, lookup-none}
use Rattle.std.proofs.lemmas.Map.Entries.{none_below_head, none_past_head}
use Rattle.std.proofs.lemmas.Map.Keys.{sorted_tail, IsDistinct-from_sorted}

module _ {K X : Type 0} (R : K → K → Ordering) where
  pub find_at : (k : K) (es : List (K × X)) → lookup (is_at (R k)) es ≡ find R k es
  find_at k [] = refl
  find_at k (e ∷ es) = ap (cond (is_eq (R k e.0)) (Some e.1)) (find_at k es)

  pub put_entry : (k : K) (v : X) (es : List (K × X)) → insert_entry R es k v ≡ put R k v es
  put_entry k v [] = refl
  put_entry k v (e ∷ es) = by (R k e.0) (put_entry k v es) where
    by : (o : Ordering) → insert_entry R es k v ≡ put R k v es
        → match_ordering o ((k, v) ∷ e ∷ es) ((e.0, v) ∷ es) (e ∷ insert_entry R es k v) ≡ by_order o ((k, v) ∷ e ∷ es) ((e.0, v) ∷ es) (e ∷ put R k v es)
    by Less later = refl
    by Equal later = refl
    by Greater later = ap (λ rest. e ∷ rest) later

  -- a new value at a key that the map has
  pub put_value : IsTotalOrder R → (k : K) (v old : X) (es : List (K × X)) → IsStrictlySortedBy R (keys_of es) → lookup (is_at (R k)) es ≡ Some old
      → set_value (is_at (R k)) es v ≡ put R k v es
  put_value total k v old [] sorted known = absurd (cc)
  put_value total k v old (e ∷ es) sorted known = by (R k e.0) refl known (put_value total k v old es (sorted_tail R e.0 (keys_of es) sorted)) where
    by : (o : Ordering) → R k e.0 ≡ o → cond (is_eq o) (Some e.1) (lookup (is_at (R k)) es) ≡ Some old
        → (lookup (is_at (R k)) es ≡ Some old → set_value (is_at (R k)) es v ≡ put R k v es)
        → cond (is_eq o) ((e.0, v) ∷ es) (e ∷ set_value (is_at (R k)) es v) ≡ by_order o ((k, v) ∷ e ∷ es) ((e.0, v) ∷ es) (e ∷ put R k v es)
    by Less below found later = absurd (let none = lookup-none (is_at (R k)) es (none_below_head total k e es sorted below).1 in cc)
    by Equal here found later = refl
    by Greater above found later = ap (λ rest. e ∷ rest) (later found)

  -- the entry of a key leaves: the others stay
  all_stay : (same : K → K → Bool) → ((x y : K) → same x y ≡ eq_by_cmp R x y) → (k : K) (es : List (K × X)) → NonePasses (is_at (R k)) es → filter (λ e. not (same k e.0)) es ≡ es
  all_stay same tied k [] h = refl
  all_stay same tied k (e ∷ es) h =
      ap (λ b. cond (not b) (e ∷ filter (λ f. not (same k f.0)) es) (filter (λ f. not (same k f.0)) es)) (tied k e.0 ∙ h.0)
      ∙ ap (λ rest. e ∷ rest) (all_stay same tied k es h.1)

  pub without_entry : IsTotalOrder R → (same : K → K → Bool) → ((x y : K) → same x y ≡ eq_by_cmp R x y) → (k : K) (es : List (K × X)) → IsStrictlySortedBy R (keys_of es)
      → remove_entry (is_at (R k)) es ≡ filter (λ e. not (same k e.0)) es
  without_entry total same tied k [] sorted = refl
  without_entry total same tied k (e ∷ es) sorted = by (is_eq (R k e.0)) refl (tied k e.0) (without_entry total same tied k es (sorted_tail R e.0 (keys_of es) sorted)) where
    by : (b : Bool) → is_eq (R k e.0) ≡ b → same k e.0 ≡ is_eq (R k e.0) → remove_entry (is_at (R k)) es ≡ filter (λ f. not (same k f.0)) es
        → cond b es (e ∷ remove_entry (is_at (R k)) es) ≡ cond (not (same k e.0)) (e ∷ filter (λ f. not (same k f.0)) es) (filter (λ f. not (same k f.0)) es)
    by true here tie later =
        sym (ap (λ b. cond (not b) (e ∷ filter (λ f. not (same k f.0)) es) (filter (λ f. not (same k f.0)) es)) (tie ∙ here)
        ∙ all_stay same tied k es (none_past_head (eq_by_cmp_equiv total) k e es (IsDistinct-from_sorted R (keys_of (e ∷ es)) sorted) here))
    by false here tie later = ap (λ rest. e ∷ rest) later ∙ sym (ap (λ b. cond (not b) (e ∷ filter (λ f. not (same k f.0)) es) (filter (λ f. not (same k f.0)) es)) (tie ∙ here))

pub same_number : (x y : ℕ) → (x == y) ≡ eq_by_cmp nat_cmp x y
same_number = unsigned_ties
