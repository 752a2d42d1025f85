-- What stands at a place: of a value below a path, after a write, and in a node with children.
use Rattle.std.proofs.Common.{◌≡◌, List, [], ◌∷◌, ◌++◌, Bool, true, false, cond, not, ◌&&◌, ◌||◌, is_some, Option, Some, None, refl, sym, ap, subst, ◌∙◌}
use Rattle.std.specs.Option.{unwrap_or, option_and_then, option_or, option_map}
use Rattle.std.specs.Ordering.{is_eq, ordering_then, eq_by_cmp, match_ordering}
use Rattle.std.specs.declared.cmp.Ordering.{Ordering}
use Rattle.std.specs.declared.cmp.Ordering.TheVariants.{Less, Equal, Greater}
use Rattle.std.specs.Cmp.Lexicographic.{nat_list_cmp_total}
use Rattle.std.specs.Cmp.{eq_by_cmp_equiv}
use Rattle.std.specs.FinMap.{nat_cmp-IsAntisymmetric, slice_cmp-IsAntisymmetric}
use Rattle.std.specs.FinMap.Entries.{find, put, by_order, same_entries}
use Rattle.std.specs.Map.{lookup, keys_of, set_value, remove_entry}
use Rattle.std.specs.List.{AllByRecursion, IsDistinct, last_or, cons_option}
use Rattle.std.specs.List.Sorted.{IsStrictlySortedBy}
use Rattle.std.specs.BTreeMap.{is_at, insert_entry}
use Rattle.std.proofs.lemmas.Map.Keys.{IsDistinct-from_sorted, IsDistinct-head, IsDistinct-tail}
use Rattle.pres_tree.specs.Keys.{Key, key_cmp, same_key}
use Rattle.pres_tree.specs.Paths.{Path, path_cmp, below, is_prefix, sorted_by}
use Rattle.pres_tree.specs.Rows.{Rows, is_null, leaf_at, value_at, placed, InOrder}
use Rattle.pres_tree.specs.Writes.{Write, write, written_at, standing_rows, after}
use Rattle.pres_tree.specs.Layer.{child_rows, Children, IsChild}
use Rattle.pres_tree.specs.Falls.{path_total, path_same}
use Rattle.pres_tree.proofs.Last.{find-sorted_by, find-append, find-placed, last_write_decides, sorted_by-is_sorted}

-- ---- keys

pub key_same : (k l : Key) → same_key k l ≡ true → k ≡ l
key_same k l h =
    elim (key_cmp k l) as (λ o. key_cmp k l ≡ o → is_eq o ≡ true → k ≡ l) [
      | Less ↦ λ p e. cc
      | Equal ↦ λ p e. slice_cmp-IsAntisymmetric nat_cmp-IsAntisymmetric k l p
      | Greater ↦ λ p e. cc
    ] refl h

-- ---- values in order are equal where they have the same leaves

pub same_rows : {A : Type 0} (v w : Rows A) → InOrder v → InOrder w → ((x : Path) → leaf_at v x ≡ leaf_at w x) → v ≡ w
same_rows v w = same_entries path_cmp path_total path_same v w

pub in_order : {A : Type 0} (rs : Rows A) → InOrder (sorted_by path_cmp rs)
in_order rs = sorted_by-is_sorted rs

pub in_order-after : {A : Type 0} (t : Rows A) (ws : List (Write A)) → InOrder (after t ws)
in_order-after t ws = sorted_by-is_sorted (standing_rows (write [] t ∷ ws))

-- ---- below a path

is_met : Option Path → Path → Bool
is_met None x = false
is_met (Some y) x = is_eq (path_cmp x y)

met_above : (p x y : Path) → is_eq (path_cmp (p ++ x) y) ≡ is_met (below p y) x
unfolding is_met
met_above [] x y = refl
met_above (k ∷ p) x [] = refl
met_above (k ∷ p) x (l ∷ y) =
    eq_then (key_cmp k l) (path_cmp (p ++ x) y)
    ∙ elim (same_key k l) as (λ b. cond b (is_eq (path_cmp (p ++ x) y)) false ≡ is_met (cond b (below p y) None) x) [ true ↦ met_above p x y | false ↦ refl ]
  where
    eq_then : (o r : Ordering) → is_eq (ordering_then o r) ≡ cond (is_eq o) (is_eq r) false
    eq_then Less r = refl
    eq_then Equal r = refl
    eq_then Greater r = refl

met_first : {A : Type 0} (o : Option Path) (x : Path) (s : A) (v : Rows A) → find path_cmp x (cons_option (option_map (λ y. (y, s)) o) v) ≡ cond (is_met o x) (Some s) (find path_cmp x v)
unfolding is_met
met_first None x s v = refl
met_first (Some y) x s v = refl

pub leaf_at-value_at : {A : Type 0} (p : Path) (v : Rows A) (x : Path) → leaf_at (value_at p v) x ≡ leaf_at v (p ++ x)
leaf_at-value_at p [] x = refl
leaf_at-value_at p (r ∷ v) x =
    met_first (below p r.0) x r.1 (value_at p v)
    ∙ (λ i. cond (sym (met_above p x r.0) i) (Some r.1) (leaf_at-value_at p v x i))

-- ---- after one write

-- the leaf at the rest of x below the write, or else h
abbrev pub put_at : {A : Type 0} → Option Path → Rows A → Option A → Option A
put_at None v h = h
put_at (Some q) v h = leaf_at v q

abbrev pub held_after : {A : Type 0} → Path → Rows A → (Path → Option A) → Path → Option A
held_after p v f x = put_at (below p x) v (cond (is_prefix x p && not (is_null v)) None (f x))

-- the value t with v at p
abbrev pub set_at : {A : Type 0} → Path → Rows A → Rows A → Rows A
set_at p v t = after t (write p v ∷ [])

pub leaf_at-set_at : {A : Type 0} (p : Path) (v t : Rows A) (x : Path) → leaf_at (set_at p v t) x ≡ held_after p v (leaf_at t) x
leaf_at-set_at p v t x =
    last_write_decides (write [] t ∷ write p v ∷ []) x
    ∙ elim (below p x) as (λ o. below p x ≡ o → option_and_then (λ w. written_at w x) (last_or (Some (write [] t)) (cond (is_some o || (is_prefix x p && not (is_null v))) (write p v ∷ []) [])) ≡ put_at o v (cond (is_prefix x p && not (is_null v)) None (leaf_at t x))) [
      | None ↦ λ e. elim (is_prefix x p && not (is_null v)) as (λ b. option_and_then (λ w. written_at w x) (last_or (Some (write [] t)) (cond b (write p v ∷ []) [])) ≡ cond b None (leaf_at t x)) [
        | true ↦ ap (option_and_then (leaf_at v)) e
        | false ↦ refl
      ]
      | Some q ↦ λ e. ap (option_and_then (leaf_at v)) e
    ] refl

-- ---- what stands in a node with children

abbrev pub rows_at : {A : Type 0} → Key → List (Key × Rows A) → Rows A
rows_at l es = unwrap_or (lookup (is_at (key_cmp l)) es) []

none_at : {A : Type 0} (test : Key → Bool) (es : List (Key × Rows A)) → AllByRecursion (λ y. test y ≡ false) (keys_of es) → lookup test es ≡ None
none_at test [] h = refl
none_at test (e ∷ es) h = λ i. cond (h.0 i) (Some e.1) (none_at test es h.1 i)

or_none : {A : Type 0} (a : Option A) → option_or a None ≡ a
or_none None = refl
or_none (Some a) = refl

pub child_rows_root : {A : Type 0} (es : List (Key × Rows A)) → leaf_at (child_rows es) [] ≡ None
child_rows_root [] = refl
child_rows_root (e ∷ es) =
    find-append (placed (e.0 ∷ []) e.1) (child_rows es) []
    ∙ (λ i. option_or (find-placed (e.0 ∷ []) [] e.1 i) (child_rows_root es i))

child_rows_at : {A : Type 0} (l : Key) (x : Path) (es : List (Key × Rows A)) → IsDistinct (eq_by_cmp key_cmp) (keys_of es) → leaf_at (child_rows es) (l ∷ x) ≡ leaf_at (rows_at l es) x
child_rows_at l x [] d = refl
child_rows_at l x (e ∷ es) d =
    find-append (placed (e.0 ∷ []) e.1) (child_rows es) (l ∷ x)
    ∙ (λ i. option_or (find-placed (e.0 ∷ []) (l ∷ x) e.1 i) (child_rows_at l x es (IsDistinct-tail _ _ _ d) i))
    ∙ ap (λ b. option_or (option_and_then (leaf_at e.1) (cond b (Some x) None)) (leaf_at (rows_at l es) x)) ((eq_by_cmp_equiv nat_list_cmp_total).symm e.0 l)
    ∙ elim (same_key l e.0) as (λ b. same_key l e.0 ≡ b → option_or (option_and_then (leaf_at e.1) (cond b (Some x) None)) (leaf_at (rows_at l es) x) ≡ leaf_at (unwrap_or (cond b (Some e.1) (lookup (is_at (key_cmp l)) es)) []) x) [
      | true ↦ λ t.
          ap (λ o. option_or (leaf_at e.1 x) (leaf_at (unwrap_or o []) x))
          (none_at _ es (subst (λ k. AllByRecursion (λ y. same_key k y ≡ false) (keys_of es)) (sym (key_same l e.0 t)) (IsDistinct-head _ _ _ d)))
          ∙ or_none _
      | false ↦ λ t. refl
    ] refl

-- a value t whose places below its root are those of the children es
abbrev pub HasChildren : {A : Type 0} → Rows A → List (Key × Rows A) → Type 0
HasChildren t es = (l : Key) (x : Path) → leaf_at t (l ∷ x) ≡ leaf_at (rows_at l es) x

pub object_children : {A : Type 0} (es : List (Key × Rows A)) → IsStrictlySortedBy key_cmp (keys_of es) → HasChildren (sorted_by path_cmp (child_rows es)) es
object_children es o l x = find-sorted_by (child_rows es) (l ∷ x) ∙ child_rows_at l x es (IsDistinct-from_sorted _ _ o)

pub object_root : {A : Type 0} (es : List (Key × Rows A)) → leaf_at (sorted_by path_cmp (child_rows es)) [] ≡ None
object_root es = find-sorted_by (child_rows es) [] ∙ child_rows_root es

-- the children es' are es with w at the key k
abbrev pub SetsChild : {A : Type 0} → Key → Option (Rows A) → List (Key × Rows A) → List (Key × Rows A) → Type 0
SetsChild k w es es' = (q : Key) → lookup (is_at (key_cmp q)) es' ≡ cond (is_at (key_cmp k) q) w (lookup (is_at (key_cmp q)) es)

pub node_write : {A : Type 0} (k : Key) (p : Path) (v t t' : Rows A) (es es' : List (Key × Rows A)) (w : Option (Rows A))
    → HasChildren t es → HasChildren t' es' → SetsChild k w es es'
    → leaf_at t' [] ≡ cond (not (is_null v)) None (leaf_at t [])
    → unwrap_or w [] ≡ set_at p v (rows_at k es)
    → InOrder t'
    → t' ≡ set_at (k ∷ p) v t
node_write k p v t t' es es' w old new sets root child order = same_rows t' (set_at (k ∷ p) v t) order (in_order-after t (write (k ∷ p) v ∷ [])) at
  where
    at : (x : Path) → leaf_at t' x ≡ leaf_at (set_at (k ∷ p) v t) x
    at [] = root ∙ sym (leaf_at-set_at (k ∷ p) v t [])
    at (l ∷ x) =
        new l x
        ∙ ap (λ o. leaf_at (unwrap_or o []) x) (sets l)
        ∙ elim (same_key k l) as (λ b. same_key k l ≡ b → leaf_at (unwrap_or (cond b w (lookup (is_at (key_cmp l)) es)) []) x ≡ put_at (cond b (below p x) None) v (cond (is_some (cond b (below x p) None) && not (is_null v)) None (leaf_at t (l ∷ x)))) [
          | true ↦ λ e.
              ap (λ u. leaf_at u x) child
              ∙ leaf_at-set_at p v (rows_at k es) x
              ∙ ap (λ h. put_at (below p x) v (cond (is_prefix x p && not (is_null v)) None h)) (ap (λ q. leaf_at (rows_at q es) x) (key_same k l e) ∙ sym (old l x))
          | false ↦ λ e. sym (old l x)
        ] refl
        ∙ ap (λ b. put_at (cond (same_key k l) (below p x) None) v (cond (is_some (cond b (below x p) None) && not (is_null v)) None (leaf_at t (l ∷ x)))) ((eq_by_cmp_equiv nat_list_cmp_total).symm k l)
        ∙ sym (leaf_at-set_at (k ∷ p) v t (l ∷ x))

-- ---- writes at the root and of nothing

pub write_root : {A : Type 0} (v t : Rows A) → InOrder v → v ≡ set_at [] v t
write_root v t h = same_rows v (set_at [] v t) h (in_order-after t (write [] v ∷ [])) (λ x. sym (leaf_at-set_at [] v t x))

abbrev pub IsRest : Path → Path → Option Path → Type 0
IsRest p x None = Unit {0}
IsRest p x (Some q) = x ≡ p ++ q

pub rest_is : (p x : Path) → IsRest p x (below p x)
rest_is [] x = refl
rest_is (k ∷ p) [] = tt
rest_is (k ∷ p) (l ∷ x) =
    elim (same_key k l) as (λ b. same_key k l ≡ b → IsRest (k ∷ p) (l ∷ x) (cond b (below p x) None)) [
      | true ↦ λ e. elim (below p x) as (λ o. IsRest p x o → IsRest (k ∷ p) (l ∷ x) o) [ None ↦ λ h. tt | Some q ↦ λ h. λ i. sym (key_same k l e) i ∷ h i ] (rest_is p x)
      | false ↦ λ e. tt
    ] refl

-- to write null where nothing stands changes nothing
pub write_nothing : {A : Type 0} (p : Path) (t : Rows A) → InOrder t → ((x : Path) → leaf_at t (p ++ x) ≡ None) → t ≡ set_at p [] t
write_nothing {A} p t order none = same_rows t (set_at p [] t) order (in_order-after t (write p [] ∷ [])) (λ x.
    elim (below p x) as (λ o. IsRest p x o → leaf_at t x ≡ put_at o [] (leaf_at t x)) [
      | None ↦ λ h. refl
      | Some q ↦ λ h. ap (leaf_at t) h ∙ none q
    ] (rest_is p x)
    ∙ ap (λ b. put_at (below p x) [] (cond b None (leaf_at t x))) (sym (and_false (is_prefix x p)))
    ∙ sym (leaf_at-set_at p [] t x))
  where
    and_false : (b : Bool) → (b && false) ≡ false
    and_false true = refl
    and_false false = refl

pub write_absent : {A : Type 0} (k : Key) (p : Path) (t : Rows A) (es : List (Key × Rows A)) → InOrder t → HasChildren t es → lookup (is_at (key_cmp k)) es ≡ None → t ≡ set_at (k ∷ p) [] t
write_absent k p t es order has none = write_nothing (k ∷ p) t order (λ x. has k (p ++ x) ∙ ap (λ o. leaf_at (unwrap_or o []) (p ++ x)) none)

-- ---- null

pub null_is_empty : {A : Type 0} (v : Rows A) → is_null v ≡ true → v ≡ []
null_is_empty [] h = refl
null_is_empty (r ∷ v) h = cc

pub put_not_null : {A : Type 0} (k : Path) (s : A) (v : Rows A) → is_null (put path_cmp k s v) ≡ false
put_not_null k s [] = refl
put_not_null k s (r ∷ v) = elim (path_cmp k r.0) as (λ o. is_null (by_order o ((k, s) ∷ r ∷ v) ((r.0, s) ∷ v) (r ∷ put path_cmp k s v)) ≡ false) [ Less ↦ refl | Equal ↦ refl | Greater ↦ refl ]

pub sorted_not_null : {A : Type 0} (v : Rows A) → is_null v ≡ false → is_null (sorted_by path_cmp v) ≡ false
sorted_not_null [] h = h
sorted_not_null (r ∷ v) h = put_not_null r.0 r.1 (sorted_by path_cmp v)

-- a leaf below the write stands after it
pub write_not_null : {A : Type 0} (p : Path) (v t : Rows A) → is_null v ≡ false → is_null (set_at p v t) ≡ false
write_not_null p [] t h = cc
write_not_null p (r ∷ v) t h =
    elim (set_at p (r ∷ v) t) as (λ u. leaf_at u (p ++ r.0) ≡ Some r.1 → is_null u ≡ false) [
      | [] ↦ λ e. cc
      | q ∷ u ↦ λ e. refl
    ] (leaf_at-set_at p (r ∷ v) t (p ++ r.0) ∙ put (below-append p r.0))
  where
    below-append : (p x : Path) → below p (p ++ x) ≡ Some x
    below-append [] x = refl
    below-append (k ∷ p) x = ap (λ b. cond b (below p (p ++ x)) None) ((eq_by_cmp_equiv nat_list_cmp_total).refl k) ∙ below-append p x

    put : below p (p ++ r.0) ≡ Some r.0 → held_after p (r ∷ v) (leaf_at t) (p ++ r.0) ≡ Some r.1
    put e = ap (λ o. put_at o (r ∷ v) (cond (is_prefix (p ++ r.0) p && not (is_null (r ∷ v))) None (leaf_at t (p ++ r.0)))) e
        ∙ ap (λ b. cond b (Some r.1) (leaf_at v r.0)) ((eq_by_cmp_equiv path_total).refl r.0)

-- ---- no child is null

pub Children-at : {A : Type 0} (k : Key) (w : Rows A) (es : List (Key × Rows A)) → Children es → lookup (is_at (key_cmp k)) es ≡ Some w → IsChild w
Children-at k w [] h e = cc
Children-at k w (e ∷ es) h is =
    elim (same_key k e.0) as (λ b. cond b (Some e.1) (lookup (is_at (key_cmp k)) es) ≡ Some w → IsChild w) [
      | true ↦ λ g. let same : e.1 ≡ w = cc in subst IsChild same h.0
      | false ↦ λ g. Children-at k w es h.1 g
    ] is

pub Children-set : {A : Type 0} (k : Key) (w : Rows A) (es : List (Key × Rows A)) → Children es → IsChild w → Children (set_value (is_at (key_cmp k)) es w)
Children-set k w [] h n = tt
Children-set k w (e ∷ es) h n =
    elim (same_key k e.0) as (λ b. Children (cond b ((e.0, w) ∷ es) (e ∷ set_value (is_at (key_cmp k)) es w))) [
      | true ↦ (n, h.1)
      | false ↦ (h.0, Children-set k w es h.1 n)
    ]

pub Children-insert : {A : Type 0} (k : Key) (w : Rows A) (es : List (Key × Rows A)) → Children es → IsChild w → Children (insert_entry key_cmp es k w)
Children-insert k w [] h n = (n, tt)
Children-insert k w (e ∷ es) h n =
    elim (key_cmp k e.0) as (λ o. Children (match_ordering o ((k, w) ∷ e ∷ es) ((e.0, w) ∷ es) (e ∷ insert_entry key_cmp es k w))) [
      | Less ↦ (n, h)
      | Equal ↦ (n, h.1)
      | Greater ↦ (h.0, Children-insert k w es h.1 n)
    ]

-- the child that was written is taken out again
pub Children-remove : {A : Type 0} (k : Key) (w : Rows A) (es : List (Key × Rows A)) → Children es → Children (remove_entry (is_at (key_cmp k)) (set_value (is_at (key_cmp k)) es w))
Children-remove k w [] h = tt
Children-remove k w (e ∷ es) h =
    elim (same_key k e.0) as (λ b. same_key k e.0 ≡ b → Children (remove_entry (is_at (key_cmp k)) (cond b ((e.0, w) ∷ es) (e ∷ set_value (is_at (key_cmp k)) es w)))) [
      | true ↦ λ t. subst (λ b. Children (cond b es ((e.0, w) ∷ remove_entry (is_at (key_cmp k)) es))) (sym t) h.1
      | false ↦ λ t. subst (λ b. Children (cond b (set_value (is_at (key_cmp k)) es w) (e ∷ remove_entry (is_at (key_cmp k)) (set_value (is_at (key_cmp k)) es w)))) (sym t) (h.0, Children-remove k w es h.1)
    ] refl

pub sets_then : {A : Type 0} (k : Key) (v w : Option (Rows A)) (es fs gs : List (Key × Rows A)) → SetsChild k v es fs → SetsChild k w fs gs → SetsChild k w es gs
sets_then k v w es fs gs a b q =
    b q ∙ ap (cond (same_key k q) w) (a q)
    ∙ elim (same_key k q) as (λ c. cond c w (cond c v (lookup (is_at (key_cmp q)) es)) ≡ cond c w (lookup (is_at (key_cmp q)) es)) [ true ↦ refl | false ↦ refl ]

-- what is written where it stands changes nothing
pub set_same : {A : Type 0} (k : Key) (w : Rows A) (es : List (Key × Rows A)) → lookup (is_at (key_cmp k)) es ≡ Some w → set_value (is_at (key_cmp k)) es w ≡ es
set_same k w [] h = refl
set_same k w (e ∷ es) h =
    elim (same_key k e.0) as (λ b. cond b (Some e.1) (lookup (is_at (key_cmp k)) es) ≡ Some w → cond b ((e.0, w) ∷ es) (e ∷ set_value (is_at (key_cmp k)) es w) ≡ e ∷ es) [
      | true ↦ λ g. let same : e.1 ≡ w = cc in λ i. (e.0, sym same i) ∷ es
      | false ↦ λ g. ap (λ fs. e ∷ fs) (set_same k w es g)
    ] h

-- a value that is not null, written below where a leaf or nothing stands
pub write_over : {A : Type 0} (k : Key) (p : Path) (v t : Rows A) → is_null v ≡ false → HasChildren t [] → set_at (k ∷ p) v [] ≡ set_at (k ∷ p) v t
write_over {A} k p v t h has = same_rows (set_at (k ∷ p) v []) (set_at (k ∷ p) v t) (in_order-after [] (write (k ∷ p) v ∷ [])) (in_order-after t (write (k ∷ p) v ∷ [])) (λ x.
    leaf_at-set_at (k ∷ p) v [] x ∙ at x ∙ sym (leaf_at-set_at (k ∷ p) v t x))
  where
    none : Rows A
    none = []

    at : (x : Path) → held_after (k ∷ p) v (leaf_at none) x ≡ held_after (k ∷ p) v (leaf_at t) x
    at [] = ap (λ b. cond (not b) None (leaf_at none [])) h ∙ sym (ap (λ b. cond (not b) None (leaf_at t [])) h)
    at (l ∷ x) = ap (λ g. put_at (below (k ∷ p) (l ∷ x)) v (cond (is_prefix (l ∷ x) (k ∷ p) && not (is_null v)) None g)) (sym (has l x))
