-- The rows of a tree say the same as the last write at each place.
use Rattle.std.proofs.Common.{refl, sym, ◌∙◌, ap, inl, inr, ◌≡◌, ◌⊎◌, List, [], ◌∷◌, ◌++◌, Option, Some, None, Bool, true, false, not, cond, T, ◌||◌, ◌&&◌}
use Rattle.std.specs.Option.{option_and_then, option_or}
use Rattle.std.specs.Prelude.{is_some}
use Rattle.std.specs.List.{filter, list_any, last_or}
use Rattle.std.specs.Ordering.{eq_by_cmp, is_eq, ordering_then}
use Rattle.std.specs.declared.cmp.Ordering.{Ordering}
use Rattle.std.specs.declared.cmp.Ordering.TheVariants.{Less, Equal, Greater}
use Rattle.std.specs.Cmp.{eq_by_cmp_equiv}
use Rattle.std.specs.Cmp.Lexicographic.{nat_list_cmp_total}
use Rattle.std.specs.FinMap.Entries.{find, where_key, find-put, find-where_key, is_sorted, is_sorted-put, same_entries}
use Rattle.pres_tree.specs.Falls.{path_total, path_same}
use Rattle.pres_tree.specs.Keys.{Key, key_cmp, same_key}
use Rattle.pres_tree.specs.Paths.{Path, path_cmp, below, is_prefix, sorted_by}
use Rattle.pres_tree.specs.Rows.{Rows, is_null, placed, leaf_at}
use Rattle.pres_tree.specs.Writes.{Write, write, overwrites, written_at, leaf_after, standing_rows, tree_after, LastWriteDecides, TreeGrows}

pub find-sorted_by : {A : Type 0} (es : List (Path × A)) (q : Path) → find path_cmp q (sorted_by path_cmp es) ≡ find path_cmp q es
find-sorted_by [] q = refl
find-sorted_by (e ∷ es) q = find-put path_cmp path_total q e.0 e.1 (sorted_by path_cmp es) ∙ ap (λ o. cond (eq_by_cmp path_cmp q e.0) (Some e.1) o) (find-sorted_by es q)

cond_or : {A : Type 0} (b : Bool) (x : A) (o p : Option A) → cond b (Some x) (option_or o p) ≡ option_or (cond b (Some x) o) p
cond_or true x o p = refl
cond_or false x o p = refl

pub find-append : {A : Type 0} (es fs : List (Path × A)) (q : Path) → find path_cmp q (es ++ fs) ≡ option_or (find path_cmp q es) (find path_cmp q fs)
find-append [] fs q = refl
find-append (e ∷ es) fs q = ap (λ o. cond (eq_by_cmp path_cmp q e.0) (Some e.1) o) (find-append es fs q) ∙ cond_or (eq_by_cmp path_cmp q e.0) e.1 _ _

-- x is p ++ r where what is left of x below p is r
is_left : Option Path → Path → Bool
is_left None r = false
is_left (Some x) r = eq_by_cmp path_cmp x r

head_ties : (a b : Ordering) (n o : Bool) (l : Option Path) (r : Path) → is_eq a ≡ n → is_eq b ≡ is_left l r → is_eq (ordering_then a b) ≡ is_left (cond n l None) r
unfolding is_left
head_ties Less b n o l r e f = ap (λ t. is_left (cond t l None) r) e
head_ties Equal b n o l r e f = f ∙ ap (λ t. is_left (cond t l None) r) e
head_ties Greater b n o l r e f = ap (λ t. is_left (cond t l None) r) e

same_key_sym : (k l : Key) → eq_by_cmp key_cmp l k ≡ same_key k l
same_key_sym k l = (eq_by_cmp_equiv nat_list_cmp_total).symm l k

tie-below : (p x r : Path) → eq_by_cmp path_cmp x (p ++ r) ≡ is_left (below p x) r
unfolding is_left
tie-below [] x r = refl
tie-below (k ∷ p) [] r = refl
tie-below (k ∷ p) (l ∷ x) r = head_ties (key_cmp l k) (path_cmp x (p ++ r)) (same_key k l) true (below p x) r (same_key_sym k l) (tie-below p x r)

step_placed : {A : Type 0} (l : Option Path) (r : Path) (s : A) (v : List (Path × A)) →
    cond (is_left l r) (Some s) (option_and_then (λ q. find path_cmp q v) l) ≡ option_and_then (λ q. find path_cmp q ((r, s) ∷ v)) l
unfolding is_left
step_placed None r s v = refl
step_placed (Some x) r s v = refl

none_found : {A : Type 0} (l : Option Path) → option_and_then (λ q. find {X = A} path_cmp q []) l ≡ None
none_found None = refl
none_found (Some x) = refl

pub find-placed : {A : Type 0} (p x : Path) (v : List (Path × A)) → find path_cmp x (placed p v) ≡ option_and_then (λ q. find path_cmp q v) (below p x)
find-placed p x [] = sym (none_found (below p x))
find-placed p x (r ∷ v) =
    (λ i. cond (tie-below p x r.0 i) (Some r.1) (find-placed p x v i)) ∙ step_placed (below p x) r.0 r.1 v

-- whether a list has an item that passes, and then the last of these is the same whatever stands before
any_or_none : {A : Type 0} (p : A → Bool) (xs : List A) →
    ((list_any p xs ≡ false) × (filter p xs ≡ [])) ⊎ ((list_any p xs ≡ true) × ((o : Option A) → last_or o (filter p xs) ≡ last_or None (filter p xs)))
any_or_none p [] = inl (refl, refl)
any_or_none {A} p (x ∷ xs) =
    elim (p x) as (λ b. ((b || list_any p xs ≡ false) × (cond b (x ∷ filter p xs) (filter p xs) ≡ [])) ⊎ ((b || list_any p xs ≡ true) × ((o : Option A) → last_or o (cond b (x ∷ filter p xs) (filter p xs)) ≡ last_or None (cond b (x ∷ filter p xs) (filter p xs))))) [
      | true ↦ inr (refl, λ o. refl)
      | false ↦ any_or_none p xs
    ]

or_none : {A : Type 0} (o : Option A) → option_or o None ≡ o
or_none None = refl
or_none (Some x) = refl

-- a write that does not overwrite x puts nothing there
written_or_not : {A : Type 0} (w : Write A) (x : Path) → written_at w x ≡ option_and_then (λ v. written_at v x) (last_or None (cond (overwrites w x) (w ∷ []) []))
written_or_not w x = at_left (below w.path x) refl where
  at_left : (l : Option Path) → below w.path x ≡ l → written_at w x ≡ option_and_then (λ v. written_at v x) (last_or None (cond (overwrites w x) (w ∷ []) []))
  at_left (Some r) e = sym (ap (λ b. option_and_then (λ v. written_at v x) (last_or None (cond (b || (is_prefix x w.path && not (is_null w.value))) (w ∷ []) []))) (ap is_some e))
  at_left None e = ap (option_and_then (leaf_at w.value)) e ∙ off (overwrites w x) where
    off : (b : Bool) → None ≡ option_and_then (λ v. written_at v x) (last_or None (cond b (w ∷ []) []))
    off true = sym (ap (option_and_then (leaf_at w.value)) e)
    off false = refl

none_later : {A : Type 0} (w : Write A) (x : Path) (b : Bool) (F : List (Write A)) → b ≡ false → F ≡ [] →
    option_or (cond (not b) (written_at w x) None) (option_and_then (λ v. written_at v x) (last_or None F))
    ≡ option_and_then (λ v. written_at v x) (last_or None (cond (overwrites w x) (w ∷ F) F))
none_later w x b F e h =
    (λ i. option_or (cond (not (e i)) (written_at w x) None) (option_and_then (λ v. written_at v x) (last_or None (h i))))
    ∙ or_none (written_at w x) ∙ written_or_not w x
    ∙ ap (λ G. option_and_then (λ v. written_at v x) (last_or None (cond (overwrites w x) (w ∷ G) G))) (sym h)

some_later : {A : Type 0} (w : Write A) (x : Path) (b o : Bool) (F : List (Write A)) → b ≡ true → ((d : Option (Write A)) → last_or d F ≡ last_or None F) →
    option_or (cond (not b) (written_at w x) None) (option_and_then (λ v. written_at v x) (last_or None F))
    ≡ option_and_then (λ v. written_at v x) (last_or None (cond o (w ∷ F) F))
some_later w x b true F e same =
    ap (λ t. option_or (cond (not t) (written_at w x) None) (option_and_then (λ v. written_at v x) (last_or None F))) e
    ∙ ap (option_and_then (λ v. written_at v x)) (sym (same (Some w)))
some_later w x b false F e same =
    ap (λ t. option_or (cond (not t) (written_at w x) None) (option_and_then (λ v. written_at v x) (last_or None F))) e

abbrev passes : {A : Type 0} → Path → Write A → Bool
passes x l = overwrites l x

abbrev keeps : {A : Type 0} → List (Write A) → Path → Bool
keeps later y = not (list_any (passes y) later)

abbrev puts : {A : Type 0} → Path → Write A → Option A
puts x w = written_at w x

by_later : {A : Type 0} (w : Write A) (later : List (Write A)) (x : Path) →
    ((list_any (passes x) later ≡ false) × (filter (passes x) later ≡ [])) ⊎ ((list_any (passes x) later ≡ true) × ((o : Option (Write A)) → last_or o (filter (passes x) later) ≡ last_or None (filter (passes x) later))) →
    option_or (cond (keeps later x) (written_at w x) None) (leaf_after later x) ≡ leaf_after (w ∷ later) x
by_later w later x (inl none) = none_later w x (list_any (passes x) later) (filter (passes x) later) none.0 none.1
by_later w later x (inr some) = some_later w x (list_any (passes x) later) (overwrites w x) (filter (passes x) later) some.0 some.1

pub find-standing : {A : Type 0} (ws : List (Write A)) (x : Path) → find path_cmp x (standing_rows ws) ≡ leaf_after ws x
find-standing [] x = refl
find-standing (w ∷ later) x =
    find-append (where_key path_cmp (keeps later) (placed w.path w.value)) (standing_rows later) x
    ∙ (λ i. option_or (find-where_key path_cmp (keeps later) x (λ y t. ap (keeps later) (sym (path_same x y t))) (placed w.path w.value) i) (find-standing later x i))
    ∙ ap (λ o. option_or (cond (keeps later x) o None) (leaf_after later x)) (find-placed w.path x w.value)
    ∙ by_later w later x (any_or_none (passes x) later)

pub last_write_decides : {A : Type 0} (ws : List (Write A)) (x : Path) → LastWriteDecides ws x
last_write_decides ws x = find-sorted_by (standing_rows ws) x ∙ find-standing ws x

pub sorted_by-is_sorted : {A : Type 0} (es : List (Path × A)) → T (is_sorted path_cmp (sorted_by path_cmp es))
sorted_by-is_sorted [] = tt
sorted_by-is_sorted (e ∷ es) = is_sorted-put path_cmp path_total e.0 e.1 (sorted_by path_cmp es) (sorted_by-is_sorted es)

pub last_or-append : {A : Type 0} (o : Option A) (xs ys : List A) → last_or o (xs ++ ys) ≡ last_or (last_or o xs) ys
last_or-append o [] ys = refl
last_or-append o (x ∷ xs) ys = last_or-append (Some x) xs ys

pub filter-append : {A : Type 0} (p : A → Bool) (xs ys : List A) → filter p (xs ++ ys) ≡ filter p xs ++ filter p ys
filter-append p [] ys = refl
filter-append p (x ∷ xs) ys = elim (p x) as (λ b. cond b (x ∷ filter p (xs ++ ys)) (filter p (xs ++ ys)) ≡ cond b (x ∷ filter p xs) (filter p xs) ++ filter p ys) [
  | true ↦ ap (λ l. x ∷ l) (filter-append p xs ys)
  | false ↦ filter-append p xs ys
]

on_top : {A : Type 0} (v : Rows A) (ws ms : List (Write A)) (x : Path) → leaf_at v x ≡ leaf_after ws x →
    ((list_any (passes x) ms ≡ false) × (filter (passes x) ms ≡ [])) ⊎ ((list_any (passes x) ms ≡ true) × ((o : Option (Write A)) → last_or o (filter (passes x) ms) ≡ last_or None (filter (passes x) ms))) →
    leaf_after (write [] v ∷ ms) x ≡ option_and_then (puts x) (last_or (last_or None (filter (passes x) ws)) (filter (passes x) ms))
on_top v ws ms x same (inl none) =
    ap (λ l. option_and_then (puts x) (last_or (Some (write [] v)) l)) none.1
    ∙ same
    ∙ ap (λ l. option_and_then (puts x) (last_or (last_or None (filter (passes x) ws)) l)) (sym none.1)
on_top v ws ms x same (inr some) = ap (option_and_then (puts x)) (some.1 (Some (write [] v)) ∙ sym (some.1 (last_or None (filter (passes x) ws))))

-- writes after a tree that stands for earlier writes
pub scalar-grows : {A : Type 0} (v : Rows A) (ws ms : List (Write A)) (x : Path) → leaf_at v x ≡ leaf_after ws x → leaf_after (write [] v ∷ ms) x ≡ leaf_after (ws ++ ms) x
scalar-grows v ws ms x same =
    on_top v ws ms x same (any_or_none (passes x) ms)
    ∙ sym (ap (λ l. option_and_then (puts x) (last_or None l)) (filter-append (passes x) ws ms) ∙ ap (option_and_then (puts x)) (last_or-append None (filter (passes x) ws) (filter (passes x) ms)))

pub tree_grows : {A : Type 0} (ws ms : List (Write A)) → TreeGrows ws ms
tree_grows ws ms =
    same_entries path_cmp path_total path_same _ _ (sorted_by-is_sorted (standing_rows (write [] (tree_after ws) ∷ ms))) (sorted_by-is_sorted (standing_rows (ws ++ ms)))
    (λ x. last_write_decides (write [] (tree_after ws) ∷ ms) x ∙ scalar-grows (tree_after ws) ws ms x (last_write_decides ws x) ∙ sym (last_write_decides (ws ++ ms) x))
