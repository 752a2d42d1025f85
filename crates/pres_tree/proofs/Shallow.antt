-- The object of children that are values is a value, one level deeper.
use Rattle.std.proofs.Common.{◌≡◌, ℕ, ◌+◌, ◌-◌, ◌<◌, ◌≤◌, List, [], ◌∷◌, ◌++◌, true, false, ◌&&◌, cond, Some, None, Result, Ok, Err, refl, sym, ap, subst, ◌∙◌, arith}
use Rattle.std.specs.Prelude.{IsSome}
use Rattle.std.proofs.lemmas.Bool.{false≢true}
use Rattle.std.specs.Option.{unwrap_or, option_or}
use Rattle.std.specs.Result.{MatchResult, IfOk}
use Rattle.std.specs.Ordering.{match_ordering}
use Rattle.std.specs.declared.cmp.Ordering.TheVariants.{Less, Equal, Greater}
use Rattle.std.specs.Map.{lookup, keys_of}
use Rattle.std.specs.List.Sorted.{IsStrictlySortedBy}
use Rattle.std.specs.BTreeMap.{is_at, insert_entry}
use Rattle.serde_json.specs.Data.{Data, Items, no_items, item, Members, no_members, member}
use Rattle.std.specs.Fmt.{decimal}
use Rattle.pres_tree.specs.declared.fault.TreeFault.{TreeFault}
use Rattle.pres_tree.specs.Keys.{Key, key_cmp, is_key, same_key}
use Rattle.pres_tree.specs.Paths.{Path, max_depth, path_cmp, sorted_by}
use Rattle.pres_tree.specs.Rows.{Rows, IsValue, Holds, is_null, leaf_at, placed}
use Rattle.pres_tree.specs.Layer.{Children, child_rows}
use Rattle.pres_tree.specs.JsonReading.{Reading, Shallow, rows_of, items_rows, members_rows}
use Rattle.pres_tree.proofs.Last.{find-append, find-placed, find-sorted_by}
use Rattle.pres_tree.proofs.Found.{key_same, in_order, rows_at, object_root, object_children}

-- a child that may stand under its key, with n levels left for it
pub record Kid {A : Type 0} (n : ℕ) (k : Key) (v : Rows A) : Type 0 where
  pub key : is_key k ≡ true
  pub some : is_null v ≡ false
  pub value : IsValue v
  pub shallow : Shallow n v

abbrev pub Kids : {A : Type 0} → ℕ → List (Key × Rows A) → Type 0
Kids n [] = Unit {0}
Kids n (e ∷ es) = Kid n e.0 e.1 × Kids n es

pub Kids-children : {A : Type 0} (n : ℕ) (es : List (Key × Rows A)) → Kids n es → Children es
Kids-children n [] h = tt
Kids-children n (e ∷ es) h = ((h.0.some, h.0.value.in_order), Kids-children n es h.1)

pub Kids-insert : {A : Type 0} (n : ℕ) (k : Key) (w : Rows A) (es : List (Key × Rows A)) → Kids n es → Kid n k w → Kids n (insert_entry key_cmp es k w)
Kids-insert n k w [] h kid = (kid, tt)
Kids-insert n k w (e ∷ es) h kid =
    elim (key_cmp k e.0) as (λ o. Kids n (match_ordering o ((k, w) ∷ e ∷ es) ((e.0, w) ∷ es) (e ∷ insert_entry key_cmp es k w))) [
      | Less ↦ (kid, h)
      | Equal ↦ (record { key = h.0.key; some = kid.some; value = kid.value; shallow = kid.shallow }, h.1)
      | Greater ↦ (h.0, Kids-insert n k w es h.1 kid)
    ]

-- where a leaf is found below a key, a child stands there
Kid-at : {A : Type 0} (n : ℕ) (es : List (Key × Rows A)) → Kids n es → (l : Key) (x : Path) → Holds (rows_at l es) x → Kid n l (rows_at l es)
Kid-at n [] h l x held = absurd cc
Kid-at n (e ∷ es) h l x held = elim (same_key l e.0) as (λ b. same_key l e.0 ≡ b → Holds (unwrap_or (cond b (Some e.1) (lookup (is_at (key_cmp l)) es)) []) x → Kid n l (unwrap_or (cond b (Some e.1) (lookup (is_at (key_cmp l)) es)) [])) [
  | true ↦ λ same there. subst (λ k. Kid n k e.1) (sym (key_same l e.0 same)) h.0
  | false ↦ λ other there. Kid-at n es h.1 l x there
] refl held

abbrev object_of : {A : Type 0} → List (Key × Rows A) → Rows A
object_of es = sorted_by path_cmp (child_rows es)

module _ {A : Type 0} (n : ℕ) (es : List (Key × Rows A)) (kids : Kids n es) (order : IsStrictlySortedBy key_cmp (keys_of es)) where
  not_root : Holds (object_of es) [] → ⊥
  not_root held = false≢true (subst IsSome (object_root es) held)

  held_below : (l : Key) (x : Path) → Holds (object_of es) (l ∷ x) → Holds (rows_at l es) x
  held_below l x held = subst IsSome (object_children es order l x) held

  pub Shallow-object : Shallow (n + 1) (object_of es)
  Shallow-object [] held = absurd (not_root held)
  Shallow-object (l ∷ x) held =
      let there = held_below l x held in
      let kid = Kid-at n es kids l x there in
      let deep = kid.shallow x there in
      (omega (arith, deep.0), (λ i. kid.key i && deep.1 i))

  pub IsValue-object : n ≤ max_depth → IsValue (object_of es)
  IsValue-object few = record { in_order = in_order (child_rows es); apart = apart; paths = λ x held. let deep = Shallow-object x held in (omega (arith, deep.0), deep.1) }
    where
      apart : (x z : Path) → Holds (object_of es) x → Holds (object_of es) (x ++ z) → z ≡ []
      apart [] z held more = absurd (not_root held)
      apart (l ∷ x) z held more =
          let there = held_below l x held in
          (Kid-at n es kids l x there).value.apart x z there (held_below l (x ++ z) more)

pub Shallow-leaf : {A : Type 0} (n : ℕ) (a : A) → 0 < n → Shallow n (([], a) ∷ [])
Shallow-leaf n a h [] held = (h, refl)
Shallow-leaf n a h (l ∷ x) held = absurd (false≢true held)

-- ---- what is read has no leaf at its root

pub items-root : {A : Type 0} (f : Data → Reading A) (i : ℕ) (ds : Items) → leaf_at (items_rows f i ds) [] ≡ None
items-root f i no_items = refl
items-root f i (item d ds) =
    find-append (placed (decimal i ∷ []) (rows_of f d)) (items_rows f (i + 1) ds) []
    ∙ (λ j. option_or (find-placed (decimal i ∷ []) [] (rows_of f d) j) (items-root f (i + 1) ds j))

pub members-root : {A : Type 0} (f : Data → Reading A) (ms : Members) → leaf_at (members_rows f ms) [] ≡ None
members-root f no_members = refl
members-root f (member k d ms) =
    find-append (placed (k ∷ []) (rows_of f d)) (members_rows f ms) []
    ∙ (λ j. option_or (find-placed (k ∷ []) [] (rows_of f d) j) (members-root f ms j))

pub Shallow-below : {A : Type 0} (n : ℕ) (rows v : Rows A) → leaf_at rows [] ≡ None → v ≡ sorted_by path_cmp rows → Shallow (n - 1 + 1) v → Shallow n v
Shallow-below n rows v root is deep [] held = absurd (false≢true (subst IsSome (ap (λ w. leaf_at w []) is ∙ find-sorted_by rows [] ∙ root) held))
Shallow-below n rows v root is deep (l ∷ x) held = let here = deep (l ∷ x) held in (omega (arith, here.0), here.1)

pub Shallow-result : {A : Type 0} (P : Type 0) (Q : TreeFault → Type 0) (n m : ℕ) (rows : Rows A) (r : Result (Rows A) TreeFault) → m ≡ n - 1 → leaf_at rows [] ≡ None → MatchResult r (λ v. P × (v ≡ sorted_by path_cmp rows)) Q → IfOk r (λ v. Shallow (m + 1) v) → IfOk r (λ v. Shallow n v)
Shallow-result P Q n m rows (Ok v) is root read deep = Shallow-below n rows v root read.1 (subst (λ k. Shallow (k + 1) v) is deep)
Shallow-result P Q n m rows (Err e) is root read deep = deep
