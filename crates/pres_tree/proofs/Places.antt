-- The place of a key among entries in key order.
use Rattle.std.proofs.Common.{◌≡◌, ℕ, suc, ◌+◌, ◌<◌, ◌≤◌, ◌++◌, zero, List, [], ◌∷◌, length, Option, Some, None, Result, Ok, Err, refl, sym, ap, subst, ◌∙◌, arith, true, false, true≢false, cond, is_some}
use Rattle.std.specs.declared.cmp.Ordering.{Ordering}
use Rattle.std.specs.declared.cmp.Ordering.TheVariants.{Less, Equal, Greater}
use Rattle.std.specs.Option.{IfSome, option_map, unwrap_or}
use Rattle.std.specs.Ordering.{match_ordering}
use Rattle.std.specs.Cmp.Lexicographic.{nat_list_cmp_total}
use Rattle.std.specs.List.{IsAmong, slice_get, slice_index_or, slice_set, insert, remove, AllByRecursion}
use Rattle.std.specs.List.Sorted.{IsStrictlySortedBy}
use Rattle.std.specs.Map.{keys_of, values_of, lookup, set_value, remove_entry}
use Rattle.std.specs.BTreeMap.{BTreeMap, is_at, insert_entry, IsOrdered, Updates, UpdatesBy, WritesThrough}
use Rattle.std_collections.specs.Layout.BTreeMap.{seek, one_further}
use Rattle.std_collections.specs.Layout.Columns.{set_value_at}
use Rattle.std_collections.specs.BTreeMap.Comparable.{le_lt_trans}
use Rattle.std_collections.proofs.Entries.{NonePasses, lookup-none, set_value_none, remove_entry_none}
use Rattle.std_collections.proofs.Seek.{seek-Ok, seek_err, found_at, missing_at, insert_entry-Ok, insert_entry_err, sorted_insert}
use Rattle.std_collections.proofs.TreeMap.Lookup.{updates_remove, writes_through, Updates-insert}
use Rattle.pres_tree.specs.Keys.{Key, key_cmp}

-- the same variant, n places further on
abbrev pub further : ℕ → Result ℕ ℕ → Result ℕ ℕ
further n (Ok i) = Ok (n + i)
further n (Err i) = Err (n + i)

pub further_none : (r : Result ℕ ℕ) → r ≡ further 0 r
further_none (Ok i) = let e : i ≡ 0 + i = omega arith in ap Ok e
further_none (Err i) = let e : i ≡ 0 + i = omega arith in ap Err e

further_one : (n : ℕ) (r : Result ℕ ℕ) → further n (one_further r) ≡ further (n + 1) r
further_one n (Ok i) = let e : n + suc i ≡ n + 1 + i = omega arith in ap Ok e
further_one n (Err i) = let e : n + suc i ≡ n + 1 + i = omega arith in ap Err e

module _ {K V : Type 0} (compare : K → Ordering) (e : K × V) (es : List (K × V)) where
  stands : (o : Ordering) → compare e.0 ≡ o → seek compare (e ∷ es) ≡ match_ordering o (Err 0) (Ok 0) (one_further (seek compare es))
  stands o h = ap (λ q. match_ordering q (Err 0) (Ok 0) (one_further (seek compare es))) h

  pub place_before : (n : ℕ) → compare e.0 ≡ Less → Err n ≡ further n (seek compare (e ∷ es))
  place_before n h = let z : n ≡ n + 0 = omega arith in ap Err z ∙ sym (ap (further n) (stands Less h))

  pub place_here : (n : ℕ) → compare e.0 ≡ Equal → Ok n ≡ further n (seek compare (e ∷ es))
  place_here n h = let z : n ≡ n + 0 = omega arith in ap Ok z ∙ sym (ap (further n) (stands Equal h))

  pub place_after : (n : ℕ) → compare e.0 ≡ Greater → further n (seek compare (e ∷ es)) ≡ further (n + 1) (seek compare es)
  place_after n h = ap (further n) (stands Greater h) ∙ further_one n (seek compare es)

pub place_last : {K V : Type 0} (compare : K → Ordering) (n : ℕ) (es : List (K × V)) → es ≡ [] → Err n ≡ further n (seek compare es)
place_last compare n es none = let z : n ≡ n + 0 = omega arith in ap Err z ∙ sym (ap (λ fs. further n (seek compare fs)) none)

-- ---- in a list whose keys rise

pub none_rise : IsStrictlySortedBy key_cmp []
unfolding IsStrictlySortedBy
none_rise = tt

pub set_there : {V : Type 0} (es : List (Key × V)) (i : ℕ) (e : Key × V) (w : V) → i < length es → e ≡ slice_index_or es i e → slice_set es i (e.0, w) ≡ set_value_at es i w
set_there [] i e w l h = absurd (omega arith)
set_there (f ∷ es) zero e w l h = λ j. ((h j).0, w) ∷ es
set_there (f ∷ es) (suc i) e w l h = ap (λ fs. f ∷ fs) (set_there es i e w (omega arith) h)

value_there : {V : Type 0} (es : List (Key × V)) (i : ℕ) (e : Key × V) → i < length es → e ≡ slice_index_or es i e → Some e.1 ≡ slice_get (values_of es) i
value_there [] i e l h = absurd (omega arith)
value_there (f ∷ es) zero e l h = λ j. Some (h j).1
value_there (f ∷ es) (suc i) e l h = value_there es i e (omega arith) h

module _ {V : Type 0} (k : Key) (es : List (Key × V)) (i : ℕ) where
  pub within : seek (key_cmp k) es ≡ Ok i → i < length es
  within p = (seek-Ok (key_cmp k) es i p).0

  module _ (p : seek (key_cmp k) es ≡ Ok i) (e : Key × V) (h : e ≡ slice_index_or es i e) where
    pub found_value : Some e.1 ≡ lookup (is_at (key_cmp k)) es
    found_value = value_there es i e (within p) h ∙ sym (found_at (key_cmp k) es i p).value

    pub found_write : (w : V) → slice_set es i (e.0, w) ≡ set_value (is_at (key_cmp k)) es w
    found_write w = set_there es i e w (within p) h ∙ (found_at (key_cmp k) es i p).writes w

  module _ (rise : IsStrictlySortedBy key_cmp (keys_of es)) (p : seek (key_cmp k) es ≡ Err i) where
    missing : NonePasses (is_at (key_cmp k)) es
    missing = missing_at (key_cmp k) (le_lt_trans nat_list_cmp_total k) es i rise p

    pub missing_value : None ≡ lookup (is_at (key_cmp k)) es
    missing_value = sym (lookup-none (is_at (key_cmp k)) es missing)

    pub missing_write : (w : V) → es ≡ set_value (is_at (key_cmp k)) es w
    missing_write w = sym (set_value_none (is_at (key_cmp k)) es w missing)

    pub missing_remove : es ≡ remove_entry (is_at (key_cmp k)) es
    missing_remove = sym (remove_entry_none (is_at (key_cmp k)) es missing)

all_removed : {V : Type 0} (P : Key → Type 0) (es : List (Key × V)) (i : ℕ) → AllByRecursion P (keys_of es) → AllByRecursion P (keys_of (remove es i))
all_removed P [] zero a = tt
all_removed P [] (suc i) a = tt
all_removed P (e ∷ es) zero a = a.1
all_removed P (e ∷ es) (suc i) a = (a.0, all_removed P es i a.1)

pub rise_remove : {V : Type 0} (es : List (Key × V)) (i : ℕ) → IsStrictlySortedBy key_cmp (keys_of es) → IsStrictlySortedBy key_cmp (keys_of (remove es i))
unfolding IsStrictlySortedBy
rise_remove [] zero a = tt
rise_remove [] (suc i) a = tt
rise_remove (e ∷ es) zero a = a.1
rise_remove (e ∷ es) (suc i) a = (all_removed (λ l. key_cmp e.0 l ≡ Less) es i a.0, rise_remove es i a.1)

-- the keys of a beginning rise
all_front : {V : Type 0} (P : Key → Type 0) (xs ys : List (Key × V)) → AllByRecursion P (keys_of (xs ++ ys)) → AllByRecursion P (keys_of xs)
all_front P [] ys h = tt
all_front P (x ∷ xs) ys h = (h.0, all_front P xs ys h.1)

pub rise_front : {V : Type 0} (xs ys : List (Key × V)) → IsStrictlySortedBy key_cmp (keys_of (xs ++ ys)) → IsStrictlySortedBy key_cmp (keys_of xs)
unfolding IsStrictlySortedBy
rise_front [] ys a = tt
rise_front (x ∷ xs) ys a = (all_front (λ l. key_cmp x.0 l ≡ Less) xs ys a.0, rise_front xs ys a.1)

pub found_remove : {V : Type 0} (k : Key) (es : List (Key × V)) (i : ℕ) → seek (key_cmp k) es ≡ Ok i → remove es i ≡ remove_entry (is_at (key_cmp k)) es
found_remove k es i p = (found_at (key_cmp k) es i p).removes

pub removes : {V : Type 0} (k : Key) (m n : BTreeMap Key V) → IsOrdered key_cmp m → n.entries ≡ remove_entry (is_at (key_cmp k)) m.entries → UpdatesBy key_cmp (key_cmp k) m n None
removes k m n o e = updates_remove nat_list_cmp_total (key_cmp k) (nat_list_cmp_total.congr k) m n o e

-- the entry before the first one stays the first
pub first_in : {V : Type 0} (xs es : List (Key × V)) (k : Key) (v : V) → IsStrictlySortedBy key_cmp (keys_of (xs ++ (k, v) ∷ es)) → insert_entry key_cmp es k v ≡ (k, v) ∷ es
unfolding IsStrictlySortedBy
first_in [] [] k v a = refl
first_in [] (e ∷ es) k v a = ap (λ o. match_ordering o ((k, v) ∷ e ∷ es) ((e.0, v) ∷ es) (e ∷ insert_entry key_cmp es k v)) a.0.0
first_in (x ∷ xs) es k v a = first_in xs es k v a.1

module _ {V : Type 0} (k : Key) (v : V) where
  module _ (es : List (Key × V)) (i : ℕ) where
    pub found_insert : seek (key_cmp k) es ≡ Ok i → set_value_at es i v ≡ insert_entry key_cmp es k v
    found_insert p = insert_entry-Ok key_cmp k v es i p

    pub found_old : seek (key_cmp k) es ≡ Ok i → slice_get (values_of es) i ≡ lookup (is_at (key_cmp k)) es
    found_old p = sym (found_at (key_cmp k) es i p).value

    pub up_to : seek (key_cmp k) es ≡ Err i → i ≤ length es
    up_to p = (seek_err (key_cmp k) es i p).0

    pub new_insert : seek (key_cmp k) es ≡ Err i → insert es i (k, v) ≡ insert_entry key_cmp es k v
    new_insert p = insert_entry_err key_cmp k v es i p

  module _ (m n : BTreeMap Key V) (o : IsOrdered key_cmp m) where
    pub writes : n.entries ≡ set_value (is_at (key_cmp k)) m.entries v → WritesThrough key_cmp (key_cmp k) m v n
    writes e = writes_through nat_list_cmp_total (key_cmp k) (nat_list_cmp_total.congr k) m n o v e

    pub sets : (i : ℕ) → seek (key_cmp k) m.entries ≡ Ok i → n.entries ≡ set_value_at m.entries i v → Updates key_cmp m n k (Some v) × IsOrdered key_cmp n
    sets i p e =
        let f = found_at (key_cmp k) m.entries i p in
        let all = writes (e ∙ f.writes v) in
        (all.3 f.there, all.4)

    pub puts : (i : ℕ) → seek (key_cmp k) m.entries ≡ Err i → n.entries ≡ insert m.entries i (k, v) → Updates key_cmp m n k (Some v) × IsOrdered key_cmp n
    puts i p e = (
      Updates-insert nat_list_cmp_total k v m n i o (sym p) e,
      subst (λ es. IsStrictlySortedBy key_cmp (keys_of es)) (sym e) (sorted_insert key_cmp k v nat_list_cmp_total m.entries i o p),
    )

    -- the same of a map with those entries
    pub joins : (i : ℕ) → seek (key_cmp k) m.entries ≡ Err i → n.entries ≡ insert_entry key_cmp m.entries k v → Updates key_cmp m n k (Some v) × IsOrdered key_cmp n
    joins i p e = puts i p (e ∙ sym (new_insert m.entries i p))

-- ---- what is found stands among the values

pub among_found : {V : Type 0} (k : Key) (es : List (Key × V)) (v : V) → Some v ≡ lookup (is_at (key_cmp k)) es → IsAmong (values_of es) v
among_found k [] v h = absurd (true≢false (ap is_some h))
among_found {V} k (e ∷ es) v h =
    elim (is_at (key_cmp k) e.0) as (λ b. Some v ≡ cond b (Some e.1) (lookup (is_at (key_cmp k)) es) → IsAmong (e.1 ∷ values_of es) v) [
      | true ↦ λ g. (0, (omega arith, ap (λ o. unwrap_or o v) g))
      | false ↦ λ g. let r = among_found k es v g in (suc r.0, (omega (arith, r.1.0), r.1.1))
    ] h

pub among_result : {V B : Type 0} (now : B → V) (k : Key) (es : List (Key × V)) (o : Option B) → option_map now o ≡ lookup (is_at (key_cmp k)) es → IfSome o (λ b. IsAmong (values_of es) (now b))
among_result now k es None h = tt
among_result now k es (Some b) h = among_found k es (now b) h
