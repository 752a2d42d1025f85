-- A value whose leaves are changed, by what their places hold in another value, has its rows changed.
use Rattle.std.proofs.Common.{◌≡◌, suc, length, List, [], ◌∷◌, ◌++◌, true, false, cond, ◌&&◌, is_some, Option, Some, None, T, refl, sym, ap, subst, ◌∙◌}
use Rattle.std.specs.declared.cmp.Ordering.TheVariants.{Less, Equal, Greater}
use Rattle.std.specs.Ordering.{is_lt, eq_by_cmp}
use Rattle.std.specs.Prelude.{MatchOption, option_map}
use Rattle.std.specs.FinMap.Entries.{put, by_order, is_sorted, below_all}
use Rattle.std.specs.Map.{keys_of, lookup}
use Rattle.std.specs.BTreeMap.{is_at}
use Rattle.pres_tree.specs.Paths.{Path, path_cmp, sorted_by}
use Rattle.pres_tree.specs.Rows.{Rows, IsValue, InOrder, is_null, leaf_at, value_at, placed, with_leaves, children_with}
use Rattle.pres_tree.specs.LeavesOn.{leaves_on, children_on}
use Rattle.pres_tree.specs.Keys.{Key, key_cmp}
use Rattle.pres_tree.specs.Layer.{child_rows, Children}
use Rattle.pres_tree.specs.Falls.{path_same}
use Rattle.pres_tree.proofs.Changed.{child_rows-with, with_leaves-sorted_by}
use Rattle.pres_tree.proofs.Found.{Children-at, HasChildren, leaf_at-value_at}
use Rattle.pres_tree.proofs.Nodes.{value_at_absent, value_at_child, value_at_root}

leaves_on-append : {A B : Type 0} (f : Option B → A → B) (held : Rows B) (v w : Rows A) → leaves_on f held (v ++ w) ≡ leaves_on f held v ++ leaves_on f held w
leaves_on-append f held [] w = refl
leaves_on-append f held (r ∷ v) w = ap (λ u. (r.0, f (leaf_at held r.0) r.1) ∷ u) (leaves_on-append f held v w)

-- below a key each leaf reads what is below that key
leaves_on-placed : {A B : Type 0} (f : Option B → A → B) (held : Rows B) (k : Key) (v : Rows A)
    → leaves_on f held (placed (k ∷ []) v) ≡ placed (k ∷ []) (leaves_on f (value_at (k ∷ []) held) v)
leaves_on-placed f held k [] = refl
leaves_on-placed f held k (r ∷ v) = λ i. (k ∷ r.0, f (sym (leaf_at-value_at (k ∷ []) held r.0) i) r.1) ∷ leaves_on-placed f held k v i

leaves_on-put : {A B : Type 0} (f : Option B → A → B) (held : Rows B) (k : Path) (a : A) (v : Rows A)
    → leaves_on f held (put path_cmp k a v) ≡ put path_cmp k (f (leaf_at held k) a) (leaves_on f held v)
leaves_on-put f held k a [] = refl
leaves_on-put f held k a (r ∷ v) =
    elim (path_cmp k r.0) as (λ o. path_cmp k r.0 ≡ o → leaves_on f held (by_order o ((k, a) ∷ r ∷ v) ((r.0, a) ∷ v) (r ∷ put path_cmp k a v)) ≡ by_order o ((k, f (leaf_at held k) a) ∷ leaves_on f held (r ∷ v)) ((r.0, f (leaf_at held k) a) ∷ leaves_on f held v) ((r.0, f (leaf_at held r.0) r.1) ∷ put path_cmp k (f (leaf_at held k) a) (leaves_on f held v))) [
      | Less ↦ λ e. refl
      | Equal ↦ λ e. ap (λ x. (r.0, f (leaf_at held x) a) ∷ leaves_on f held v) (sym (path_same k r.0 e))
      | Greater ↦ λ e. ap (λ u. (r.0, f (leaf_at held r.0) r.1) ∷ u) (leaves_on-put f held k a v)
    ] refl

leaves_on-sorted_by : {A B : Type 0} (f : Option B → A → B) (held : Rows B) (v : Rows A) → leaves_on f held (sorted_by path_cmp v) ≡ sorted_by path_cmp (leaves_on f held v)
leaves_on-sorted_by f held [] = refl
leaves_on-sorted_by f held (r ∷ v) = leaves_on-put f held r.0 r.1 (sorted_by path_cmp v) ∙ ap (put path_cmp r.0 (f (leaf_at held r.0) r.1)) (leaves_on-sorted_by f held v)

child_rows-on : {A B : Type 0} (f : Option B → A → B) (held : Rows B) (es : List (Key × Rows A)) → child_rows (children_on f held es) ≡ leaves_on f held (child_rows es)
child_rows-on f held [] = refl
child_rows-on f held (e ∷ es) =
    (λ i. sym (leaves_on-placed f held e.0 e.1) i ++ child_rows-on f held es i) ∙ sym (leaves_on-append f held (placed (e.0 ∷ []) e.1) (child_rows es))

-- the rows of the changed children
pub changed_object_on : {A B : Type 0} (f : Option B → A → B) (held : Rows B) (es : List (Key × Rows A)) (fs : List (Key × Rows B)) (t : Rows A)
    → fs ≡ children_on f held es → sorted_by path_cmp (child_rows es) ≡ t → sorted_by path_cmp (child_rows fs) ≡ leaves_on f held t
changed_object_on f held es fs t is view =
    ap (λ gs. sorted_by path_cmp (child_rows gs)) is ∙ ap (sorted_by path_cmp) (child_rows-on f held es)
    ∙ sym (leaves_on-sorted_by f held (child_rows es)) ∙ ap (leaves_on f held) view

-- where none of the children looks, none of the rows does
pub object_alone : {A B : Type 0} (f : Option B → A → B) (g : A → B) (held : Rows B) (es : List (Key × Rows A)) (t : Rows A)
    → children_on f held es ≡ children_with g es → sorted_by path_cmp (child_rows es) ≡ t → leaves_on f held t ≡ with_leaves g t
object_alone f g held es t is view =
    ap (leaves_on f held) (sym view) ∙ leaves_on-sorted_by f held (child_rows es)
    ∙ ap (sorted_by path_cmp) (sym (child_rows-on f held es) ∙ ap child_rows is ∙ child_rows-with g es)
    ∙ sym (with_leaves-sorted_by g (child_rows es)) ∙ ap (with_leaves g) view

-- where nothing is held, each leaf is changed alone
pub leaves_alone : {A B : Type 0} (f : Option B → A → B) (g : A → B) (v : Rows A) → ((a : A) → f None a ≡ g a) → leaves_on f [] v ≡ with_leaves g v
leaves_alone f g [] h = refl
leaves_alone f g (r ∷ v) h = λ i. (r.0, h r.1 i) ∷ leaves_alone f g v h i

-- ---- what the changed value keeps

pub leaf_at-on : {A B : Type 0} (f : Option B → A → B) (held : Rows B) (v : Rows A) (x : Path) → is_some (leaf_at (leaves_on f held v) x) ≡ is_some (leaf_at v x)
leaf_at-on f held [] x = refl
leaf_at-on f held (r ∷ v) x =
    elim (eq_by_cmp path_cmp x r.0) as (λ b. is_some (cond b (Some (f (leaf_at held r.0) r.1)) (leaf_at (leaves_on f held v) x)) ≡ is_some (cond b (Some r.1) (leaf_at v x))) [
      | true ↦ refl
      | false ↦ leaf_at-on f held v x
    ]

below_all-on : {A B : Type 0} (f : Option B → A → B) (held : Rows B) (x : Path) (v : Rows A) → below_all path_cmp x (leaves_on f held v) ≡ below_all path_cmp x v
below_all-on f held x [] = refl
below_all-on f held x (r ∷ v) = ap (λ b. is_lt (path_cmp x r.0) && b) (below_all-on f held x v)

is_sorted-on : {A B : Type 0} (f : Option B → A → B) (held : Rows B) (v : Rows A) → is_sorted path_cmp (leaves_on f held v) ≡ is_sorted path_cmp v
is_sorted-on f held [] = refl
is_sorted-on f held (r ∷ v) = λ i. below_all-on f held r.0 v i && is_sorted-on f held v i

in_order-on : {A B : Type 0} (f : Option B → A → B) (held : Rows B) (v : Rows A) → InOrder v → InOrder (leaves_on f held v)
in_order-on f held v h = subst T (sym (is_sorted-on f held v)) h

pub value_on : {A B : Type 0} (f : Option B → A → B) (held : Rows B) (v : Rows A) → IsValue v → IsValue (leaves_on f held v)
value_on f held v h = record {
  in_order = in_order-on f held v h.in_order;
  apart = λ x z a b. h.apart x z (sym (leaf_at-on f held v x) ∙ a) (sym (leaf_at-on f held v (x ++ z)) ∙ b);
  paths = λ x a. h.paths x (sym (leaf_at-on f held v x) ∙ a);
}

not_null_on : {A B : Type 0} (f : Option B → A → B) (held : Rows B) (v : Rows A) → is_null v ≡ false → is_null (leaves_on f held v) ≡ false
not_null_on f held [] h = h
not_null_on f held (r ∷ v) h = refl

pub changed_children_on : {A B : Type 0} (f : Option B → A → B) (held : Rows B) (es : List (Key × Rows A)) → Children es → Children (children_on f held es)
changed_children_on f held [] h = tt
changed_children_on f held (e ∷ es) h = ((not_null_on f (value_at (e.0 ∷ []) held) e.1 h.0.0, in_order-on f (value_at (e.0 ∷ []) held) e.1 h.0.1), changed_children_on f held es h.1)

pub changed_length_on : {A B : Type 0} (f : Option B → A → B) (held : Rows B) (es : List (Key × Rows A)) → length (children_on f held es) ≡ length es
changed_length_on f held [] = refl
changed_length_on f held (e ∷ es) = ap suc (changed_length_on f held es)

pub changed_keys_on : {A B : Type 0} (f : Option B → A → B) (held : Rows B) (es : List (Key × Rows A)) → keys_of (children_on f held es) ≡ keys_of es
changed_keys_on f held [] = refl
changed_keys_on f held (e ∷ es) = ap (λ ks. e.0 ∷ ks) (changed_keys_on f held es)

pub children_on-append : {A B : Type 0} (f : Option B → A → B) (held : Rows B) (es fs : List (Key × Rows A)) → children_on f held (es ++ fs) ≡ children_on f held es ++ children_on f held fs
children_on-append f held [] fs = refl
children_on-append f held (e ∷ es) fs = ap (λ gs. (e.0, leaves_on f (value_at (e.0 ∷ []) held) e.1) ∷ gs) (children_on-append f held es fs)

-- ---- the child at a key

pub child_is : {A B : Type 0} (rows : B → Rows A) (o : Option B) (k : Key) (t : Rows A) (es : List (Key × Rows A)) → HasChildren t es → Children es → InOrder t
    → option_map rows o ≡ lookup (is_at (key_cmp k)) es → MatchOption o (value_at (k ∷ []) t ≡ []) (λ b. value_at (k ∷ []) t ≡ rows b)
child_is rows None k t es has children order is = value_at_absent k [] t es has (sym is) order
child_is rows (Some b) k t es has children order is =
    value_at_child k [] t (rows b) (rows b) es has (sym is) order (Children-at k (rows b) es children (sym is)).1 (value_at_root (rows b))
