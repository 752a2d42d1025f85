-- Steps of the walk over the members of an object.
use Rattle.std.proofs.Common.{◌≡◌, List, [], ◌∷◌, ◌++◌, map, true, false, Option, Some, None, refl, sym, ap, ◌∙◌, append_assoc}
use Rattle.std.specs.Prelude.{String, string_bytes}
use Rattle.std.specs.declared.alloc.Global.{Global}
use Rattle.std.specs.declared.cmp.Ordering.TheVariants.{Less, Greater}
use Rattle.std.specs.Ordering.{match_ordering, ordering_reverse}
use Rattle.std.specs.List.{AllByRecursion}
use Rattle.std.specs.List.Sorted.{IsStrictlySortedBy}
use Rattle.std.specs.Cmp.Lexicographic.{nat_list_cmp_total}
use Rattle.std.specs.Map.{keys_of}
use Rattle.std.specs.BTreeMap.{insert_entry}
use Rattle.std.specs.Map.{lookup}
use Rattle.std.specs.BTreeMap.{is_at}
use Rattle.std.specs.Option.{option_or, option_and_then, unwrap_or}
use Rattle.std.specs.List.{list_any}
use Rattle.std.specs.Fmt.{decimal}
use Rattle.std.proofs.lemmas.Fmt.{decimal_by_steps, decimal_injective, decimal_nonempty, length-decimal-le}
use Rattle.std.proofs.lemmas.Bool.Decides.{nat_tests}
use Rattle.std.proofs.Common.{is_none, ℕ, ◌+◌, ◌<◌, ◌≤◌, ◌^◌, ◌/◌, ◌%◌, length, length-append, cond, ◌||◌, ◌==◌, nat_lt, lit≤, arith}
use Rattle.serde_json.specs.Data.{Data, Items, no_items, item}
use Rattle.pres_tree.specs.Keys.{Key, is_banned, is_key, key_cmp, same_key}
use Rattle.pres_tree.specs.declared.fault.TreeFault.TheVariants.{EmptyKey, LongKey, BadKey}
use Rattle.pres_tree.specs.Paths.{Path, path_cmp, sorted_by}
use Rattle.pres_tree.specs.Rows.{Rows, placed, leaf_at}
use Rattle.pres_tree.specs.JsonReading.{Reading, rows_of, items_rows}
use Rattle.pres_tree.proofs.Last.{find-append, find-placed, find-sorted_by}
use Rattle.pres_tree.proofs.Found.{key_same, same_rows, in_order, HasChildren, SetsChild, object_root, object_children}
use Rattle.pres_tree.specs.Layer.{child_rows}

abbrev pub names : {V : Type 0} → List (String Global × V) → List Key
names ms = map (λ m. string_bytes m.0) ms

abbrev pub Rise : List Key → Type 0
Rise ks = IsStrictlySortedBy key_cmp ks

names_rise : {V : Type 0} (k : Key) (ms : List (String Global × V)) → AllByRecursion (λ y. key_cmp k (string_bytes y) ≡ Less) (keys_of ms) → AllByRecursion (λ y. key_cmp k y ≡ Less) (names ms)
names_rise k [] h = tt
names_rise k (m ∷ ms) h = (h.0, names_rise k ms h.1)

pub names-rise : {V : Type 0} (ms : List (String Global × V)) → IsStrictlySortedBy (λ x y. key_cmp (string_bytes x) (string_bytes y)) (keys_of ms) → Rise (names ms)
unfolding IsStrictlySortedBy
names-rise [] h = tt
names-rise (m ∷ ms) h = (names_rise (string_bytes m.0) ms h.0, names-rise ms h.1)

all_without : (P : Key → Type 0) (ks : List Key) (k : Key) (ls : List Key) → AllByRecursion P (ks ++ k ∷ ls) → AllByRecursion P (ks ++ ls)
all_without P [] k ls h = h.1
all_without P (x ∷ ks) k ls h = (h.0, all_without P ks k ls h.1)

all_first : (P : Key → Type 0) (ks ls : List Key) → AllByRecursion P (ks ++ ls) → AllByRecursion P ks
all_first P [] ls h = tt
all_first P (x ∷ ks) ls h = (h.0, all_first P ks ls h.1)

pub rise_without : (ks : List Key) (k : Key) (ls : List Key) → Rise (ks ++ k ∷ ls) → Rise (ks ++ ls)
unfolding IsStrictlySortedBy
rise_without [] k ls h = h.1
rise_without (x ∷ ks) k ls h = (all_without (λ y. key_cmp x y ≡ Less) ks k ls h.0, rise_without ks k ls h.1)

pub rise_first : (ks ls : List Key) → Rise (ks ++ ls) → Rise ks
unfolding IsStrictlySortedBy
rise_first [] ls h = tt
rise_first (x ∷ ks) ls h = (all_first (λ y. key_cmp x y ≡ Less) ks ls h.0, rise_first ks ls h.1)

pub keys-append : {V : Type 0} (es fs : List (Key × V)) → keys_of (es ++ fs) ≡ keys_of es ++ keys_of fs
keys-append [] fs = refl
keys-append (e ∷ es) fs = ap (λ ks. e.0 ∷ ks) (keys-append es fs)

pub insert_end : {V : Type 0} (es : List (Key × V)) (k : Key) (w : V) (ks : List Key) → Rise (keys_of es ++ k ∷ ks) → insert_entry key_cmp es k w ≡ es ++ (k, w) ∷ []
unfolding IsStrictlySortedBy
insert_end [] k w ks h = refl
insert_end {V} (e ∷ es) k w ks h =
    ap (λ r. match_ordering r ((k, w) ∷ e ∷ es) ((e.0, w) ∷ es) (e ∷ insert_entry key_cmp es k w)) (above e es h.0)
    ∙ ap (λ fs. e ∷ fs) (insert_end es k w ks h.1)
  where
    above : (e : Key × V) (es : List (Key × V)) → AllByRecursion (λ y. key_cmp e.0 y ≡ Less) (keys_of es ++ k ∷ ks) → key_cmp k e.0 ≡ Greater
    above e [] h = nat_list_cmp_total.antisymm k e.0 ∙ ap ordering_reverse h.0
    above e (f ∷ es) h = above e es h.1

pub rise_insert : {V : Type 0} (es : List (Key × V)) (k : Key) (w : V) (ks : List Key) → Rise (keys_of es ++ k ∷ ks) → Rise (keys_of (es ++ (k, w) ∷ []) ++ ks)
rise_insert {V} es k w ks h = subst_rise (sym (ap (λ ls. ls ++ ks) (keys-append es ((k, w) ∷ [])) ∙ append_assoc (keys_of es) (k ∷ []) ks)) h
  where
    subst_rise : {ks ls : List Key} → ls ≡ ks → Rise ls → Rise ks
    subst_rise e h = rw (← e) h

child_rows-append : {A : Type 0} (es fs : List (Key × Rows A)) → child_rows (es ++ fs) ≡ child_rows es ++ child_rows fs
child_rows-append [] fs = refl
child_rows-append (e ∷ es) fs = ap (λ v. placed (e.0 ∷ []) e.1 ++ v) (child_rows-append es fs) ∙ sym (append_assoc (placed (e.0 ∷ []) e.1) (child_rows es) (child_rows fs))

right_unit : {A : Type 0} (v : Rows A) → v ++ [] ≡ v
right_unit [] = refl
right_unit (r ∷ v) = ap (λ w. r ∷ w) (right_unit v)

pub rows_insert : {A : Type 0} (es : List (Key × Rows A)) (k : Key) (w left : Rows A) → child_rows es ++ (placed (k ∷ []) w ++ left) ≡ child_rows (es ++ (k, w) ∷ []) ++ left
rows_insert es k w left =
    sym (append_assoc (child_rows es) (placed (k ∷ []) w) left)
    ∙ ap (λ v. v ++ left) (ap (λ v. child_rows es ++ v) (sym (right_unit (placed (k ∷ []) w))) ∙ sym (child_rows-append es ((k, w) ∷ [])))

-- ---- the items of an array, whose keys are not in byte order

abbrev Decimal : ℕ → List ℕ → Type 0
Decimal n ds = (list_any is_banned ds ≡ false) × (0 < length ds)

pub decimal_good : (n : ℕ) → n < 2 ^ 64 → list_any is_banned (decimal n) ≡ false
decimal_good n h = (decimal_by_steps Decimal one more n h).0
  where
    digit : (n : ℕ) → n < 10 → is_banned (48 + n) ≡ false
    digit n h = grind (arith, nat_tests)

    one : (n : ℕ) → n < 10 → Decimal n ((48 + n) ∷ [])
    one n h = (ap (λ b. b || false) (digit n h), omega arith)

    append : (ds : List ℕ) (b : ℕ) → list_any is_banned ds ≡ false → is_banned b ≡ false → list_any is_banned (ds ++ b ∷ []) ≡ false
    append [] b e f = ap (λ c. c || false) f
    append (d ∷ ds) b e f = elim (is_banned d) as (λ c. (c || list_any is_banned ds) ≡ false → (c || list_any is_banned (ds ++ b ∷ [])) ≡ false) [ true ↦ λ h. h | false ↦ λ h. append ds b h f ] e

    more : (n : ℕ) (ds : List ℕ) → 10 ≤ n → Decimal (n / 10) ds → Decimal n (ds ++ (48 + n % 10) ∷ [])
    more n ds h d = (append ds (48 + n % 10) d.0 (digit (n % 10) (omega arith)), omega (arith, length-append ds ((48 + n % 10) ∷ []), d.1))

key_good : (bs : List ℕ) → 0 < length bs → length bs ≤ 768 → list_any is_banned bs ≡ false → is_key bs ≡ true
key_good bs some few none =
    let x : (length bs == 0) ≡ false = grind (arith, nat_tests) in
    let y : nat_lt 768 (length bs) ≡ false = grind (arith, nat_tests) in
    λ i. is_none (cond (x i) (Some EmptyKey) (cond (y i) (Some LongKey) (cond (none i) (Some BadKey) None)))

pub decimal_key : (n : ℕ) → n < 2 ^ 64 → is_key (decimal n) ≡ true
decimal_key n h = key_good (decimal n) (decimal_nonempty n h) (omega (arith, length-decimal-le 20 n (lit≤ tt) (omega arith) h)) (decimal_good n h)

pub decimal_apart : (i j : ℕ) → i < j → j < 2 ^ 64 → same_key (decimal i) (decimal j) ≡ false
decimal_apart i j h k =
    elim (same_key (decimal i) (decimal j)) as (λ b. same_key (decimal i) (decimal j) ≡ b → b ≡ false) [
      | true ↦ λ e. absurd (omega (arith, decimal_injective i j (omega arith) k (key_same (decimal i) (decimal j) e)))
      | false ↦ λ e. refl
    ] refl

pub record Walked {A : Type 0} (f : Data → Reading A) (i : ℕ) (es : List (Key × Rows A)) (all rest : Items) : Type 0 where
  pub done : Rows A
  pub is : items_rows f 0 all ≡ done ++ items_rows f i rest
  pub has : HasChildren done es
  pub root : leaf_at done [] ≡ None
  pub later : (j : ℕ) → i ≤ j → j < 2 ^ 64 → (x : Path) → leaf_at done (decimal j ∷ x) ≡ None

or_none : {A : Type 0} (a : Option A) → option_or a None ≡ a
or_none None = refl
or_none (Some a) = refl

pub walked_start : {A : Type 0} (f : Data → Reading A) (all : Items) → Walked f 0 [] all all
walked_start f all = record { done = []; is = refl; has = λ l x. refl; root = refl; later = λ j g h x. refl }

pub walked_null : {A : Type 0} {f : Data → Reading A} {i : ℕ} {es : List (Key × Rows A)} {all rest : Items} (d : Data) → Walked f i es all (item d rest) → rows_of f d ≡ [] → Walked f (i + 1) es all rest
walked_null {f = f} {i = i} {rest = rest} d w e = record {
  done = w.done;
  is = w.is ∙ ap (λ v. w.done ++ (placed (decimal i ∷ []) v ++ items_rows f (i + 1) rest)) e;
  has = w.has;
  root = w.root;
  later = λ j g h x. w.later j (omega arith) h x;
}

pub walked_insert : {A : Type 0} {f : Data → Reading A} {i : ℕ} {es es' : List (Key × Rows A)} {all rest : Items} (d : Data) → Walked f i es all (item d rest) → i < 2 ^ 64 → SetsChild (decimal i) (Some (rows_of f d)) es es' → Walked f (i + 1) es' all rest
walked_insert {A} {f = f} {i = i} {es = es} {es' = es'} {rest = rest} d w small sets = record {
  done = w.done ++ placed (decimal i ∷ []) (rows_of f d);
  is = w.is ∙ sym (append_assoc w.done (placed (decimal i ∷ []) (rows_of f d)) (items_rows f (i + 1) rest));
  has = has;
  root = find-append w.done (placed (decimal i ∷ []) (rows_of f d)) [] ∙ (λ k. option_or (w.root k) (find-placed (decimal i ∷ []) [] (rows_of f d) k));
  later = later;
}
  where
    at : (l : Key) (x : Path) → leaf_at (w.done ++ placed (decimal i ∷ []) (rows_of f d)) (l ∷ x) ≡ option_or (leaf_at w.done (l ∷ x)) (option_and_then (leaf_at (rows_of f d)) (cond (same_key (decimal i) l) (Some x) None))
    at l x = find-append w.done (placed (decimal i ∷ []) (rows_of f d)) (l ∷ x) ∙ ap (option_or (leaf_at w.done (l ∷ x))) (find-placed (decimal i ∷ []) (l ∷ x) (rows_of f d))

    later : (j : ℕ) → i + 1 ≤ j → j < 2 ^ 64 → (x : Path) → leaf_at (w.done ++ placed (decimal i ∷ []) (rows_of f d)) (decimal j ∷ x) ≡ None
    later j g h x = at (decimal j) x ∙ (λ k. option_or (w.later j (omega arith) h x k) (option_and_then (leaf_at (rows_of f d)) (cond (decimal_apart i j (omega arith) h k) (Some x) None)))

    has : HasChildren (w.done ++ placed (decimal i ∷ []) (rows_of f d)) es'
    has l x =
        at l x
        ∙ elim (same_key (decimal i) l) as (λ b. same_key (decimal i) l ≡ b → option_or (leaf_at w.done (l ∷ x)) (option_and_then (leaf_at (rows_of f d)) (cond b (Some x) None)) ≡ leaf_at (unwrap_or (cond b (Some (rows_of f d)) (lookup (is_at (key_cmp l)) es)) []) x) [
          | true ↦ λ e. ap (λ o. option_or o (leaf_at (rows_of f d) x)) (ap (λ k. leaf_at w.done (k ∷ x)) (sym (key_same (decimal i) l e)) ∙ w.later i (omega arith) small x)
          | false ↦ λ e. or_none _ ∙ w.has l x
        ] refl
        ∙ sym (ap (λ o. leaf_at (unwrap_or o []) x) (sets l))

pub walked_end : {A : Type 0} {f : Data → Reading A} {i : ℕ} {es : List (Key × Rows A)} {all : Items} → Walked f i es all no_items → Rise (keys_of es) → sorted_by path_cmp (child_rows es) ≡ sorted_by path_cmp (items_rows f 0 all)
walked_end {A} {f = f} {es = es} {all = all} w order = same_rows (sorted_by path_cmp (child_rows es)) (sorted_by path_cmp (items_rows f 0 all)) (in_order (child_rows es)) (in_order (items_rows f 0 all)) at
  where
    all_done : items_rows f 0 all ≡ w.done
    all_done = w.is ∙ right_unit w.done

    at : (x : Path) → leaf_at (sorted_by path_cmp (child_rows es)) x ≡ leaf_at (sorted_by path_cmp (items_rows f 0 all)) x
    at [] = object_root es ∙ sym w.root ∙ ap (λ v. leaf_at v []) (sym all_done) ∙ sym (find-sorted_by (items_rows f 0 all) [])
    at (l ∷ x) = object_children es order l x ∙ sym (w.has l x) ∙ ap (λ v. leaf_at v (l ∷ x)) (sym all_done) ∙ sym (find-sorted_by (items_rows f 0 all) (l ∷ x))
