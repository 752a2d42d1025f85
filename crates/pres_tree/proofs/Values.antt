-- What every value keeps: its rows in order, no leaf above another, and each place a path.
use Rattle.std.proofs.Common.{◌≡◌, [], ◌∷◌, ◌++◌, Bool, true, false, true≢false, cond, not, ◌&&◌, is_some, Option, Some, None, refl, sym, ap, subst, ◌∙◌, arith, inl, inr, ◌⊎◌, append_assoc, T}
use Rattle.std.specs.Ordering.{is_eq, is_lt, eq_by_cmp}
use Rattle.std.specs.Cmp.{tied_itself}
use Rattle.std.specs.Cmp.Lexicographic.{nat_list_cmp_total}
use Rattle.std.specs.FinMap.Entries.{is_sorted, below_all}
use Rattle.std.proofs.lemmas.Bool.{and_parts}
use Rattle.std.proofs.lemmas.List.{append_cancel_left}
use Rattle.pres_tree.specs.Keys.{Key, same_key, is_key}
use Rattle.pres_tree.specs.Paths.{Path, IsPath, path_cmp, below, is_prefix}
use Rattle.pres_tree.specs.Rows.{Rows, IsValue, InOrder, Holds, Fits, is_null, leaf_at, with_leaves}
use Rattle.pres_tree.specs.Writes.{write}
use Rattle.pres_tree.specs.Layer.{IsNode, rows_of_node}
use Rattle.pres_tree.specs.declared.nested.Node.{Node}
use Rattle.pres_tree.specs.declared.nested.Node.TheVariants.{Empty, Leaf, Object}
use Rattle.pres_tree.proofs.Found.{key_same, set_at, put_at, leaf_at-set_at, in_order-after}

pub null_value : {A : Type 0} → IsValue {A = A} []
null_value = record { in_order = tt; apart = λ x z h k. absurd (true≢false (sym h)); paths = λ x h. absurd (true≢false (sym h)) }

one_place : {A : Type 0} (s : A) (x : Path) → Holds (([], s) ∷ []) x → x ≡ []
one_place s [] h = refl
one_place s (k ∷ x) h = absurd (true≢false (sym h))

both_root : (x z : Path) → x ≡ [] → x ++ z ≡ [] → z ≡ []
both_root [] z e f = f
both_root (k ∷ x) z e f = cc

pub leaf_value : {A : Type 0} (s : A) → IsValue (([], s) ∷ [])
leaf_value s = record {
  in_order = tt;
  apart = λ x z h k. both_root x z (one_place s x h) (one_place s (x ++ z) k);
  paths = λ x h. subst IsPath (sym (one_place s x h)) (omega arith, refl);
}

pub node_value : {A : Type 0} (n : Node A) → IsNode n → IsValue (rows_of_node n)
node_value Empty h = null_value
node_value (Leaf s) h = leaf_value s
node_value (Object m) h = h.3

-- the value whose node is known
pub view_value : {A : Type 0} (n : Node A) (t : Rows A) → IsNode n → rows_of_node n ≡ t → IsValue t
view_value n t h v = subst IsValue v (node_value n h)

-- ---- paths above and below

key_itself : (k : Key) → same_key k k ≡ true
key_itself k = ap is_eq (tied_itself nat_list_cmp_total k)

-- what is left of p ++ x below p is x
pub below-append : (p x : Path) → below p (p ++ x) ≡ Some x
below-append [] x = refl
below-append (k ∷ p) x = ap (λ b. cond b (below p (p ++ x)) None) (key_itself k) ∙ below-append p x

-- a path is p and what is left of it below p
pub below-is : (p y x : Path) → below p y ≡ Some x → y ≡ p ++ x
below-is [] y x e = cc
below-is (k ∷ p) [] x e = absurd (true≢false (sym (ap is_some e)))
below-is (k ∷ p) (l ∷ y) x e = by_key (same_key k l) refl e (below-is p y x) where
  by_key : (b : Bool) → same_key k l ≡ b → cond b (below p y) None ≡ Some x → (below p y ≡ Some x → y ≡ p ++ x) → l ∷ y ≡ k ∷ p ++ x
  by_key true h g f = λ i. sym (key_same k l h) i ∷ f g i
  by_key false h g f = absurd (true≢false (sym (ap is_some g)))

pub prefix-append : (p z : Path) → is_prefix p (p ++ z) ≡ true
prefix-append p z = ap is_some (below-append p z)

pub cons_prefix : (k m : Key) (a x : Path) → is_prefix (k ∷ a) (m ∷ x) ≡ true → (k ≡ m) × (is_prefix a x ≡ true)
cons_prefix k m a x h = by_key (same_key k m) refl h where
  by_key : (b : Bool) → same_key k m ≡ b → is_some (cond b (below a x) None) ≡ true → (k ≡ m) × (is_prefix a x ≡ true)
  by_key true e g = (key_same k m e, g)
  by_key false e g = absurd (true≢false (sym g))

pub under : (k m : Key) (a b : Path) → k ≡ m → is_prefix a b ≡ true → is_prefix (k ∷ a) (m ∷ b) ≡ true
under k m a b e h = ap (λ l. is_prefix (k ∷ a) (l ∷ b)) (sym e) ∙ ap (λ c. is_some (cond c (below a b) None)) (key_itself k) ∙ h

-- of two paths above one place one is above the other
pub above_one : (a b x : Path) → is_prefix a x ≡ true → is_prefix b x ≡ true → (is_prefix a b ≡ true) ⊎ (is_prefix b a ≡ true)
above_one [] b x h k = inl refl
above_one (l ∷ a) [] x h k = inr refl
above_one (l ∷ a) (m ∷ b) [] h k = absurd (true≢false (sym h))
above_one (l ∷ a) (m ∷ b) (n ∷ x) h k =
    let one = cons_prefix l n a x h in
    let two = cons_prefix m n b x k in
    elim (above_one a b x one.1 two.1) [
      | inl g ↦ inl (under l m a b (one.0 ∙ sym two.0) g)
      | inr g ↦ inr (under m l b a (two.0 ∙ sym one.0) g)
    ]

-- ---- after a write

some_row : {A : Type 0} (v : Rows A) (x : Path) → Holds v x → is_null v ≡ false
some_row [] x h = absurd (true≢false (sym h))
some_row (r ∷ v) x h = refl

-- what stands at x after a write of v at p stands in v, or stood there and wasn't overwritten
From : {A : Type 0} → Path → Rows A → Rows A → Path → Type 0
From p v t x = ((q : Path) × (x ≡ p ++ q) × Holds v q) ⊎ ((below p x ≡ None) × ((is_prefix x p && not (is_null v)) ≡ false) × Holds t x)

from_after : {A : Type 0} (p : Path) (v t : Rows A) (x : Path) → Holds (set_at p v t) x → From p v t x
unfolding From
from_after {A} p v t x h = by_rest (below p x) refl (ap is_some (sym (leaf_at-set_at p v t x)) ∙ h) where
  by_cover : (b : Bool) → (is_prefix x p && not (is_null v)) ≡ b → below p x ≡ None → is_some (cond b None (leaf_at t x)) ≡ true → ((q : Path) × (x ≡ p ++ q) × Holds v q) ⊎ ((below p x ≡ None) × ((is_prefix x p && not (is_null v)) ≡ false) × Holds t x)
  by_cover true f e g = absurd (true≢false (sym g))
  by_cover false f e g = inr (e, f, g)

  by_rest : (o : Option Path) → below p x ≡ o → is_some (put_at o v (cond (is_prefix x p && not (is_null v)) None (leaf_at t x))) ≡ true → ((q : Path) × (x ≡ p ++ q) × Holds v q) ⊎ ((below p x ≡ None) × ((is_prefix x p && not (is_null v)) ≡ false) × Holds t x)
  by_rest None e g = by_cover (is_prefix x p && not (is_null v)) refl e g
  by_rest (Some q) e g = inl (q, below-is p x q e, g)

apart_after : {A : Type 0} (p : Path) (v t : Rows A) → IsValue v → IsValue t → (x z : Path) → From p v t x → From p v t (x ++ z) → z ≡ []
unfolding From
apart_after p v t hv ht x z (inl a) (inl b) =
    let rest : b.0 ≡ a.0 ++ z = append_cancel_left p b.0 (a.0 ++ z) (sym b.1 ∙ ap (λ y. y ++ z) a.1 ∙ append_assoc p a.0 z) in
    hv.apart a.0 z a.2 (subst (Holds v) rest b.2)
apart_after p v t hv ht x z (inl a) (inr b) =
    let is : below p (x ++ z) ≡ Some (a.0 ++ z) = ap (λ y. below p (y ++ z)) a.1 ∙ ap (below p) (append_assoc p a.0 z) ∙ below-append p (a.0 ++ z) in
    absurd (true≢false (ap is_some (sym is ∙ b.0)))
apart_after p v t hv ht x z (inr a) (inl b) =
    let below_both : is_prefix p (x ++ z) ≡ true = ap (is_prefix p) b.1 ∙ prefix-append p b.0 in
    elim (above_one p x (x ++ z) below_both (prefix-append x z)) [
      | inl g ↦ absurd (true≢false (sym g ∙ ap is_some a.0))
      | inr g ↦ absurd (true≢false ((λ i. sym g i && sym (ap not (some_row v b.0 b.2)) i) ∙ a.1))
    ]
apart_after p v t hv ht x z (inr a) (inr b) = ht.apart x z a.2 b.2

paths_after : {A : Type 0} (p : Path) (v t : Rows A) → Fits p v → IsValue t → (x : Path) → From p v t x → IsPath x
unfolding From
paths_after p v t fits ht x (inl a) = subst IsPath (sym a.1) (fits a.0 a.2)
paths_after p v t fits ht x (inr b) = ht.paths x b.2

-- a value that fits, written into a value, leaves a value
pub value_after : {A : Type 0} (p : Path) (v t : Rows A) → IsValue v → Fits p v → IsValue t → IsValue (set_at p v t)
value_after p v t hv fits ht = record {
  in_order = in_order-after t (write p v ∷ []);
  apart = λ x z h k. apart_after p v t hv ht x z (from_after p v t x h) (from_after p v t (x ++ z) k);
  paths = λ x h. paths_after p v t fits ht x (from_after p v t x h);
}

pub null_fits : (A : Type 0) (p : Path) → Fits {A = A} p []
null_fits A p = λ x h. absurd (true≢false (sym h))

path_tail : (k : Key) (p : Path) → IsPath (k ∷ p) → IsPath p
path_tail k p h = (omega (arith, h.0), (and_parts (is_key k) _ h.1).1)

-- a value that fits below a path fits below its last keys
pub fits_rest : {A : Type 0} (q : Path) (k : Key) (p : Path) (v : Rows A) → q ≡ k ∷ p → Fits q v → Fits p v
fits_rest q k p v e h = λ x g. path_tail k (p ++ x) (subst (λ y. IsPath (y ++ x)) e (h x g))

-- ---- a value with its leaves changed

leaf_at-with_leaves : {A B : Type 0} (f : A → B) (v : Rows A) (x : Path) → is_some (leaf_at (with_leaves f v) x) ≡ is_some (leaf_at v x)
leaf_at-with_leaves f [] x = refl
leaf_at-with_leaves f (r ∷ v) x =
    elim (eq_by_cmp path_cmp x r.0) as (λ b. is_some (cond b (Some (f r.1)) (leaf_at (with_leaves f v) x)) ≡ is_some (cond b (Some r.1) (leaf_at v x))) [
      | true ↦ refl
      | false ↦ leaf_at-with_leaves f v x
    ]

below_all-with : {A B : Type 0} (f : A → B) (x : Path) (v : Rows A) → below_all path_cmp x (with_leaves f v) ≡ below_all path_cmp x v
below_all-with f x [] = refl
below_all-with f x (r ∷ v) = ap (λ b. is_lt (path_cmp x r.0) && b) (below_all-with f x v)

is_sorted-with : {A B : Type 0} (f : A → B) (v : Rows A) → is_sorted path_cmp (with_leaves f v) ≡ is_sorted path_cmp v
is_sorted-with f [] = refl
is_sorted-with f (r ∷ v) = λ i. below_all-with f r.0 v i && is_sorted-with f v i

pub in_order-with : {A B : Type 0} (f : A → B) (v : Rows A) → InOrder v → InOrder (with_leaves f v)
in_order-with f v h = subst T (sym (is_sorted-with f v)) h

pub value_with : {A B : Type 0} (f : A → B) (v : Rows A) → IsValue v → IsValue (with_leaves f v)
value_with f v h = record {
  in_order = in_order-with f v h.in_order;
  apart = λ x z a b. h.apart x z (sym (leaf_at-with_leaves f v x) ∙ a) (sym (leaf_at-with_leaves f v (x ++ z)) ∙ b);
  paths = λ x a. h.paths x (sym (leaf_at-with_leaves f v x) ∙ a);
}
