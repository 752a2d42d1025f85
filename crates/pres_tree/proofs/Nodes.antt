-- Facts on a node, in the form in which the code's steps need them.
use Rattle.std.proofs.Common.{◌≡◌, ℕ, ◌+◌, ◌<◌, ◌≤◌, max, length, List, [], ◌∷◌, ◌++◌, Bool, true, false, cond, not, ◌&&◌, Option, Some, None, refl, sym, ap, subst, ◌∙◌, arith, T}
use Rattle.std.specs.Option.{unwrap_or, option_map}
use Rattle.std.specs.Prelude.{MatchOption}
use Rattle.std.specs.Ordering.{match_ordering, ordering_reverse, ordering_then, is_lt}
use Rattle.std.specs.declared.cmp.Ordering.TheVariants.{Less, Greater}
use Rattle.std.specs.List.{AllByRecursion, cons_option}
use Rattle.std.specs.Cmp.{tied_itself}
use Rattle.std.specs.Cmp.Lexicographic.{nat_list_cmp_total}
use Rattle.std.specs.Map.{lookup, keys_of}
use Rattle.std.specs.BTreeMap.{is_at, insert_entry}
use Rattle.std.specs.FinMap.Entries.{is_sorted, below_all}
use Rattle.std.specs.List.Sorted.{IsStrictlySortedBy}
use Rattle.pres_tree.specs.Keys.{Key, key_cmp, same_key}
use Rattle.pres_tree.specs.Paths.{Path, path_cmp, below, sorted_by}
use Rattle.pres_tree.specs.Rows.{Rows, IsValue, is_null, leaf_at, value_at, placed, height, InOrder}
use Rattle.pres_tree.specs.Layer.{child_rows, rows_of_node, Children, IsNode}
use Rattle.pres_tree.specs.Falls.{height-positive, height-append, height-placed}
use Rattle.pres_tree.specs.declared.nested.Node.{Node}
use Rattle.pres_tree.specs.declared.nested.Node.TheVariants.{Empty, Leaf, Object}
use Rattle.pres_tree.proofs.Found.{key_same, same_rows, in_order, set_at, rows_at, HasChildren, SetsChild, object_children, object_root, leaf_at-value_at, node_write, sorted_not_null}

-- the keys and children, if any
abbrev pub children_of : {A : Type 0} → Node A → List (Key × Rows A)
children_of Empty = []
children_of (Leaf s) = []
children_of (Object m) = m.entries

pub node_children : {A : Type 0} (n : Node A) → IsNode n → HasChildren (rows_of_node n) (children_of n)
node_children Empty h = λ l x. refl
node_children (Leaf s) h = λ l x. refl
node_children (Object m) h = object_children m.entries h.2

pub node_order : {A : Type 0} (n : Node A) → InOrder (rows_of_node n)
node_order Empty = tt
node_order (Leaf s) = tt
node_order (Object m) = in_order (child_rows m.entries)

pub view_order : {A : Type 0} (n : Node A) (t : Rows A) → rows_of_node n ≡ t → InOrder t
view_order n t v = subst InOrder v (node_order n)

pub node_null : {A : Type 0} (n : Node A) (t : Rows A) → rows_of_node n ≡ t → n ≡ Empty → is_null t ≡ true
node_null n t v e = ap is_null (sym v ∙ ap rows_of_node e)

child_rows-not_null : {A : Type 0} (es : List (Key × Rows A)) → 0 < length es → Children es → is_null (child_rows es) ≡ false
child_rows-not_null [] h n = absurd (omega arith)
child_rows-not_null ((k, []) ∷ es) h n = absurd (cc)
child_rows-not_null ((k, r ∷ v) ∷ es) h n = refl

pub node_not_null : {A : Type 0} (n : Node A) (t : Rows A) → IsNode n → rows_of_node n ≡ t → (n ≡ Empty → ⊥) → is_null t ≡ false
node_not_null Empty t h v ne = absurd (ne refl)
node_not_null (Leaf s) t h v ne = ap is_null (sym v)
node_not_null (Object m) t h v ne = ap is_null (sym v) ∙ sorted_not_null (child_rows m.entries) (child_rows-not_null m.entries h.0 h.1)

-- ---- the value below a path

pub value_at_root : {A : Type 0} (v : Rows A) → value_at [] v ≡ v
value_at_root [] = refl
value_at_root (r ∷ v) = ap (λ w. r ∷ w) (value_at_root v)

-- ---- a value below a path is in order too

-- what is left of a path, where something is left of both, keeps the order
abbrev Keeps : Option Path → Option Path → Type 0
Keeps None y = Unit {0}
Keeps (Some x) None = Unit {0}
Keeps (Some x) (Some y) = T (is_lt (path_cmp x y))

keeps_none : (x : Option Path) → Keeps x None
keeps_none None = tt
keeps_none (Some x) = tt

keeps : (p x y : Path) → T (is_lt (path_cmp x y)) → Keeps (below p x) (below p y)
keeps [] x y h = h
keeps (k ∷ p) [] y h = tt
keeps (k ∷ p) (l ∷ x) [] h = keeps_none (below (k ∷ p) (l ∷ x))
keeps (k ∷ p) (l ∷ x) (m ∷ y) h =
    elim (same_key k l) as (λ b. same_key k l ≡ b → Keeps (cond b (below p x) None) (cond (same_key k m) (below p y) None)) [
      | true ↦ λ e. elim (same_key k m) as (λ c. same_key k m ≡ c → Keeps (below p x) (cond c (below p y) None)) [
        | true ↦ λ f. keeps p x y (subst (λ o. T (is_lt (ordering_then o (path_cmp x y)))) (ap (λ q. key_cmp q m) (sym (key_same k l e)) ∙ ap (key_cmp k) (sym (key_same k m f)) ∙ tied_itself nat_list_cmp_total k) h)
        | false ↦ λ f. keeps_none (below p x)
      ] refl
      | false ↦ λ e. tt
    ] refl

both : (a b : Bool) → T a → T b → T (a && b)
both true b p q = q
both false b p q = p

first : (a b : Bool) → T (a && b) → T a
first true b p = tt
first false b p = p

second : (a b : Bool) → T (a && b) → T b
second true b p = p
second false b p = absurd p

keeps_all : {A : Type 0} (p y x : Path) (v : Rows A) → below p y ≡ Some x → T (below_all path_cmp y v) → T (below_all path_cmp x (value_at p v))
keeps_all p y x [] e h = tt
keeps_all p y x (r ∷ v) e h =
    let rest = keeps_all p y x v e (second _ _ h) in
    elim (below p r.0) as (λ o. Keeps (Some x) o → T (below_all path_cmp x (cons_option (option_map (λ q. (q, r.1)) o) (value_at p v)))) [
      | None ↦ λ g. rest
      | Some q ↦ λ g. both _ _ g rest
    ] (subst (λ o. Keeps o (below p r.0)) e (keeps p y r.0 (first _ _ h)))

pub in_order-value_at : {A : Type 0} (p : Path) (v : Rows A) → InOrder v → InOrder (value_at p v)
in_order-value_at p [] h = tt
in_order-value_at p (r ∷ v) h =
    let rest = in_order-value_at p v (second _ _ h) in
    elim (below p r.0) as (λ o. below p r.0 ≡ o → T (is_sorted path_cmp (cons_option (option_map (λ q. (q, r.1)) o) (value_at p v)))) [
      | None ↦ λ e. rest
      | Some q ↦ λ e. both _ _ (keeps_all p r.0 q v e (first _ _ h)) rest
    ] refl

pub value_at_child : {A : Type 0} (k : Key) (p : Path) (t u s : Rows A) (es : List (Key × Rows A)) → HasChildren t es → lookup (is_at (key_cmp k)) es ≡ Some u → InOrder t → InOrder s → value_at p u ≡ s → value_at (k ∷ p) t ≡ s
value_at_child k p t u s es has at g h is = same_rows (value_at (k ∷ p) t) s (in_order-value_at (k ∷ p) t g) h (λ x.
    leaf_at-value_at (k ∷ p) t x ∙ has k (p ++ x) ∙ ap (λ o. leaf_at (unwrap_or o []) (p ++ x)) at ∙ sym (leaf_at-value_at p u x) ∙ ap (λ w. leaf_at w x) is)

pub value_at_absent : {A : Type 0} (k : Key) (p : Path) (t : Rows A) (es : List (Key × Rows A)) → HasChildren t es → lookup (is_at (key_cmp k)) es ≡ None → InOrder t → value_at (k ∷ p) t ≡ []
value_at_absent k p t es has at g = same_rows (value_at (k ∷ p) t) [] (in_order-value_at (k ∷ p) t g) tt (λ x.
    leaf_at-value_at (k ∷ p) t x ∙ has k (p ++ x) ∙ ap (λ o. leaf_at (unwrap_or o []) (p ++ x)) at)

-- what was found below one child is what is found
pub found_child : {A B : Type 0} (rows : B → Rows A) (o : Option B) (q p : Path) (t u : Rows A)
    → ((s : Rows A) → InOrder s → value_at p u ≡ s → value_at q t ≡ s)
    → MatchOption o (value_at p u ≡ []) (λ b. (is_null (rows b) ≡ false) × IsValue (rows b) × (value_at p u ≡ rows b))
    → MatchOption o (value_at q t ≡ []) (λ b. (is_null (rows b) ≡ false) × IsValue (rows b) × (value_at q t ≡ rows b))
found_child rows None q p t u same h = same [] tt h
found_child rows (Some b) q p t u same h = (h.0, h.1, same (rows b) h.1.in_order h.2)

-- ---- what the code knows of a value t whose node has children, or has none

pub record At {A : Type 0} (t : Rows A) (es : List (Key × Rows A)) : Type 0 where
  pub has : HasChildren t es
  pub is : sorted_by path_cmp (child_rows es) ≡ t
  pub root : leaf_at t [] ≡ None
  pub some : 0 < length es
  pub children : Children es
  pub order : InOrder t
  pub ordered : IsStrictlySortedBy key_cmp (keys_of es)
  pub whole : IsValue (sorted_by path_cmp (child_rows es))
  pub value : IsValue t

pub at_object : {A : Type 0} {n : Node A} {t : Rows A} (m : _) → IsNode n → rows_of_node n ≡ t → n ≡ Object m → At t m.entries
at_object {n = n} {t = t} m h v e =
    let inner = subst IsNode e h in
    let is = sym (ap rows_of_node e) ∙ v in
    record {
      is = is;
      has = subst (λ u. HasChildren u m.entries) is (object_children m.entries inner.2);
      root = ap (λ u. leaf_at u []) (sym is) ∙ object_root m.entries;
      some = inner.0;
      children = inner.1;
      order = view_order n t v;
      ordered = inner.2;
      whole = inner.3;
      value = subst IsValue is inner.3;
    }

no_children : {A : Type 0} (n : Node A) → ((m : _) → n ≡ Object m → ⊥) → HasChildren (rows_of_node n) []
no_children Empty ne = λ l x. refl
no_children (Leaf s) ne = λ l x. refl
no_children (Object m) ne = absurd (ne m refl)

pub at_other : {A : Type 0} (n : Node A) (t : Rows A) → rows_of_node n ≡ t → ((m : _) → n ≡ Object m → ⊥) → HasChildren t []
at_other n t v ne = subst (λ u. HasChildren u []) v (no_children n ne)

pub no_keys : (ks : Path) → length ks ≡ 0 → ks ≡ []
no_keys [] e = refl
no_keys (k ∷ ks) e = absurd (omega arith)

either_none : {A : Type 0} (b : Bool) → ◌≡◌ {A = Option A} None (cond b None None)
either_none true = refl
either_none false = refl

-- the value after a write below the key k, where es' has w there
pub object_write : {A : Type 0} (keys : Path) (k : Key) (p : Path) (v t : Rows A) (es es' : List (Key × Rows A)) (w : Option (Rows A))
    → keys ≡ k ∷ p → HasChildren t es → leaf_at t [] ≡ None
    → IsStrictlySortedBy key_cmp (keys_of es') → SetsChild k w es es'
    → unwrap_or w [] ≡ set_at p v (rows_at k es)
    → sorted_by path_cmp (child_rows es') ≡ set_at keys v t
object_write keys k p v t es es' w is has root order sets child =
    node_write k p v t (sorted_by path_cmp (child_rows es')) es es' w has (object_children es' order) sets
    (object_root es' ∙ either_none (not (is_null v)) ∙ ap (cond (not (is_null v)) None) (sym root))
    child
    (in_order (child_rows es'))
    ∙ ap (λ q. set_at q v t) (sym is)

-- the same where nothing is left
pub empty_write : {A : Type 0} (keys : Path) (k : Key) (p : Path) (v t : Rows A) (es es' : List (Key × Rows A)) (w : Option (Rows A))
    → keys ≡ k ∷ p → HasChildren t es → leaf_at t [] ≡ None
    → length es' ≡ 0 → SetsChild k w es es'
    → unwrap_or w [] ≡ set_at p v (rows_at k es)
    → [] ≡ set_at keys v t
empty_write keys k p v t es [] w is has root none sets child =
    node_write k p v t [] es [] w has (λ l x. refl) sets
    (either_none (not (is_null v)) ∙ ap (cond (not (is_null v)) None) (sym root))
    child
    tt
    ∙ ap (λ q. set_at q v t) (sym is)
empty_write keys k p v t es (e ∷ es') w is has root none sets child = absurd (omega arith)

pub rows_at_some : {A : Type 0} (k : Key) (es : List (Key × Rows A)) (u : Rows A) → Some u ≡ lookup (is_at (key_cmp k)) es → u ≡ rows_at k es
rows_at_some k es u h = ap (λ o. unwrap_or o []) h

pub rows_at_none : {A : Type 0} (k : Key) (es : List (Key × Rows A)) → None ≡ lookup (is_at (key_cmp k)) es → [] ≡ rows_at k es
rows_at_none k es h = ap (λ o. unwrap_or o []) h

-- ---- the leaf at the root

pub leaf_is : {A : Type 0} (n : Node A) (t : Rows A) {s : A} → rows_of_node n ≡ t → n ≡ Leaf s → Some s ≡ leaf_at t []
leaf_is n t {s} v e = ap (λ u. leaf_at u []) (sym (ap rows_of_node e) ∙ v)

no_leaf_of : {A : Type 0} (n : Node A) → ((s : A) → n ≡ Leaf s → ⊥) → None ≡ leaf_at (rows_of_node n) []
no_leaf_of Empty ne = refl
no_leaf_of (Leaf s) ne = absurd (ne s refl)
no_leaf_of (Object m) ne = sym (object_root m.entries)

pub no_leaf : {A : Type 0} (n : Node A) (t : Rows A) → rows_of_node n ≡ t → ((s : A) → n ≡ Leaf s → ⊥) → None ≡ leaf_at t []
no_leaf n t v ne = no_leaf_of n ne ∙ ap (λ u. leaf_at u []) v

-- ---- entries in order

-- the entry that comes after all others goes to the end
pub insert_last : {V : Type 0} (es : List (Key × V)) (e : Key × V) (left : List (Key × V)) → IsStrictlySortedBy key_cmp (keys_of (es ++ e ∷ left)) → insert_entry key_cmp es e.0 e.1 ≡ es ++ e ∷ []
unfolding IsStrictlySortedBy
insert_last [] e left o = refl
insert_last {V} (f ∷ es) e left o =
    ap (λ r. match_ordering r (e ∷ f ∷ es) ((f.0, e.1) ∷ es) (f ∷ insert_entry key_cmp es e.0 e.1)) (above f es e left o.0)
    ∙ ap (λ fs. f ∷ fs) (insert_last es e left o.1)
  where
    above : (f : Key × V) (es : List (Key × V)) (e : Key × V) (left : List (Key × V)) → AllByRecursion (λ y. key_cmp f.0 y ≡ Less) (keys_of (es ++ e ∷ left)) → key_cmp e.0 f.0 ≡ Greater
    above f [] e left h = nat_list_cmp_total.antisymm e.0 f.0 ∙ ap ordering_reverse h.0
    above f (g ∷ es) e left h = above f es e left h.1

-- ---- the tallest child

pub tallest : {A : Type 0} → List (Key × Rows A) → ℕ
tallest [] = 0
tallest (e ∷ es) = max (height e.1 + 1) (tallest es)

pub tallest-le-height : {A : Type 0} (es : List (Key × Rows A)) → Children es → tallest es ≤ height (child_rows es)
unfolding tallest
tallest-le-height [] h = omega arith
tallest-le-height (e ∷ es) h =
    omega (arith, tallest-le-height es h.1, height-placed e.0 e.1 (height-positive e.1 h.0.0), height-append (placed (e.0 ∷ []) e.1) (child_rows es))

pub tallest-middle : {A : Type 0} (es : List (Key × Rows A)) (e : Key × Rows A) (left : List (Key × Rows A)) → height e.1 + 1 ≤ tallest (es ++ e ∷ left)
unfolding tallest
tallest-middle [] e left = omega arith
tallest-middle (f ∷ es) e left = omega (arith, tallest-middle es e left)

pub tallest-rest : {A : Type 0} (e : Key × Rows A) (left : List (Key × Rows A)) → tallest left ≤ tallest (e ∷ left)
unfolding tallest
tallest-rest e left = omega arith
