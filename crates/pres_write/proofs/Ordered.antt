-- Lists of entries in the order of their keys, whichever order that is.
use Rattle.std.proofs.Common.{◌≡◌, suc, ◌+◌, ◌≤◌, List, [], ◌∷◌, ◌++◌, length, map, Bool, true, false, cond, ◌&&◌, ◌||◌, Some, None, T, refl, sym, ap, subst, ◌∙◌, arith}
use Rattle.std.proofs.lemmas.List.Elements.{All-head, All-tail}
use Rattle.std.specs.List.{list_any, All, AllByRecursion}
use Rattle.std.specs.List.Sorted.{IsStrictlySortedBy}
use Rattle.std.specs.Map.{keys_of, lookup}
use Rattle.std.specs.BTreeMap.{insert_entry, is_at}
use Rattle.std.specs.Ordering.{is_eq, is_lt, eq_by_cmp, match_ordering, ordering_reverse}
use Rattle.std.specs.declared.cmp.Ordering.{Ordering}
use Rattle.std.specs.declared.cmp.Ordering.TheVariants.{Less, Equal, Greater}
use Rattle.std.specs.Cmp.{IsTotalOrder}
use Rattle.std.specs.FinMap.Entries.{put, find, by_order, below_all, is_sorted, find-put, find-append, is_sorted-put, same_entries}
use Rattle.pres_tree.specs.Paths.{sorted_by}

both : (a b : Bool) → T a → T b → T (a && b)
both true b p q = q
both false b p q = p

pub either_first : (a b c : Bool) → (a || (b || c)) ≡ (b || (a || c))
either_first true true c = refl
either_first true false c = refl
either_first false true c = refl
either_first false false c = refl

once : (a c : Bool) → (a || c) ≡ (a || (a || c))
once true c = refl
once false c = refl

apart_tests : {X : Type 0} (a b : Bool) (x y z : X) → (a ≡ true → b ≡ true → ⊥) → cond a x (cond b y z) ≡ cond b y (cond a x z)
apart_tests true true x y z apart = absurd (apart refl refl)
apart_tests true false x y z apart = refl
apart_tests false b x y z apart = refl

pub tied : {K : Type 0} (R : K → K → Ordering) → ((x y : K) → R x y ≡ Equal → x ≡ y) → (q k : K) → eq_by_cmp R q k ≡ true → q ≡ k
tied R same q k h = elim (R q k) as (λ r. R q k ≡ r → is_eq r ≡ true → q ≡ k) [
  | Less ↦ λ t e. absurd cc
  | Equal ↦ λ t e. same q k t
  | Greater ↦ λ t e. absurd cc
] refl h

module _ {K A : Type 0} (R : K → K → Ordering) where
  pub insert_entry-put : (k : K) (v : A) (es : List (K × A)) → insert_entry R es k v ≡ put R k v es
  insert_entry-put k v [] = refl
  insert_entry-put k v (e ∷ es) = elim (R k e.0) as (λ r. match_ordering r ((k, v) ∷ e ∷ es) ((e.0, v) ∷ es) (e ∷ insert_entry R es k v) ≡ by_order r ((k, v) ∷ e ∷ es) ((e.0, v) ∷ es) (e ∷ put R k v es)) [
    | Less ↦ refl
    | Equal ↦ refl
    | Greater ↦ ap (λ fs. e ∷ fs) (insert_entry-put k v es)
  ]

  pub lookup-find : (k : K) (es : List (K × A)) → lookup (is_at (R k)) es ≡ find R k es
  lookup-find k [] = refl
  lookup-find k (e ∷ es) = ap (λ r. cond (is_eq (R k e.0)) (Some e.1) r) (lookup-find k es)

  below_keys : (k : K) (es : List (K × A)) → AllByRecursion (λ y. R k y ≡ Less) (keys_of es) → T (below_all R k es)
  below_keys k [] h = tt
  below_keys k (e ∷ es) h = both (is_lt (R k e.0)) (below_all R k es) (subst (λ r. T (is_lt r)) (sym h.0) tt) (below_keys k es h.1)

  pub rising_keys : (es : List (K × A)) → IsStrictlySortedBy R (keys_of es) → T (is_sorted R es)
  unfolding IsStrictlySortedBy
  rising_keys [] h = tt
  rising_keys (e ∷ es) h = both (below_all R e.0 es) (is_sorted R es) (below_keys e.0 es h.0) (rising_keys es h.1)

  pub each-middle : (P : K × A → Type 0) (es : List (K × A)) (e : K × A) (left : List (K × A)) → All P (es ++ e ∷ left) → P e
  each-middle P [] e left h = All-head P e left h
  each-middle P (f ∷ es) e left h = each-middle P es e left (All-tail P f (es ++ e ∷ left) h)

  pub length-put : (k : K) (v : A) (es : List (K × A)) → length (put R k v es) ≤ length es + 1
  length-put k v [] = omega arith
  length-put k v (e ∷ es) = elim (R k e.0) as (λ r. length (by_order r ((k, v) ∷ e ∷ es) ((e.0, v) ∷ es) (e ∷ put R k v es)) ≤ suc (length es) + 1) [
    | Less ↦ omega arith
    | Equal ↦ omega arith
    | Greater ↦ omega (arith, length-put k v es)
  ]

  pub length-sorted_by : (es : List (K × A)) → length (sorted_by R es) ≤ length es
  length-sorted_by [] = omega arith
  length-sorted_by (e ∷ es) = omega (arith, length-put e.0 e.1 (sorted_by R es), length-sorted_by es)

  module _ (same : (x y : K) → R x y ≡ Equal → x ≡ y) where
    pub each-put : (P : K × A → Type 0) (k : K) (v : A) (es : List (K × A)) → P (k, v) → AllByRecursion P es → AllByRecursion P (put R k v es)
    each-put P k v [] p h = (p, tt)
    each-put P k v (e ∷ es) p h = elim (R k e.0) as (λ r. R k e.0 ≡ r → AllByRecursion P (by_order r ((k, v) ∷ e ∷ es) ((e.0, v) ∷ es) (e ∷ put R k v es))) [
      | Less ↦ λ t. (p, h)
      | Equal ↦ λ t. (subst (λ l. P (l, v)) (same k e.0 t) p, h.1)
      | Greater ↦ λ t. (h.0, each-put P k v es p h.1)
    ] refl

    pub each-sorted_by : (P : K × A → Type 0) (es : List (K × A)) → AllByRecursion P es → AllByRecursion P (sorted_by R es)
    each-sorted_by P [] h = tt
    each-sorted_by P (e ∷ es) h = each-put P e.0 e.1 (sorted_by R es) h.0 (each-sorted_by P es h.1)

    pub any-put : {B : Type 0} (h : K → B) (f : B → Bool) (k : K) (v : A) (es : List (K × A)) → list_any f (map (λ e. h e.0) (put R k v es)) ≡ (f (h k) || list_any f (map (λ e. h e.0) es))
    any-put h f k v [] = refl
    any-put h f k v (e ∷ es) = elim (R k e.0) as (λ r. R k e.0 ≡ r → list_any f (map (λ e. h e.0) (by_order r ((k, v) ∷ e ∷ es) ((e.0, v) ∷ es) (e ∷ put R k v es))) ≡ (f (h k) || (f (h e.0) || list_any f (map (λ e. h e.0) es)))) [
      | Less ↦ λ t. refl
      | Equal ↦ λ t.
          once (f (h e.0)) (list_any f (map (λ e. h e.0) es))
          ∙ ap (λ l. f (h l) || (f (h e.0) || list_any f (map (λ e. h e.0) es))) (sym (same k e.0 t))
      | Greater ↦ λ t.
          ap (λ b. f (h e.0) || b) (any-put h f k v es)
          ∙ either_first (f (h e.0)) (f (h k)) (list_any f (map (λ e. h e.0) es))
    ] refl

    module _ (o : IsTotalOrder R) where
      -- the entry that comes after all others goes to the end
      pub insert_last : (es : List (K × A)) (e : K × A) (left : List (K × A)) → IsStrictlySortedBy R (keys_of (es ++ e ∷ left)) → insert_entry R es e.0 e.1 ≡ es ++ e ∷ []
      unfolding IsStrictlySortedBy
      insert_last [] e left h = refl
      insert_last (f ∷ es) e left h =
          ap (λ r. match_ordering r (e ∷ f ∷ es) ((f.0, e.1) ∷ es) (f ∷ insert_entry R es e.0 e.1)) (above f es h.0)
          ∙ ap (λ fs. f ∷ fs) (insert_last es e left h.1)
        where
          above : (f : K × A) (es : List (K × A)) → AllByRecursion (λ y. R f.0 y ≡ Less) (keys_of (es ++ e ∷ left)) → R e.0 f.0 ≡ Greater
          above f [] h = o.antisymm e.0 f.0 ∙ ap ordering_reverse h.0
          above f (g ∷ es) h = above f es h.1

      pub find-sorted_by : (es : List (K × A)) (q : K) → find R q (sorted_by R es) ≡ find R q es
      find-sorted_by [] q = refl
      find-sorted_by (e ∷ es) q = find-put R o q e.0 e.1 (sorted_by R es) ∙ ap (λ r. cond (eq_by_cmp R q e.0) (Some e.1) r) (find-sorted_by es q)

      pub sorted_by-rises : (es : List (K × A)) → T (is_sorted R (sorted_by R es))
      sorted_by-rises [] = tt
      sorted_by-rises (e ∷ es) = is_sorted-put R o e.0 e.1 (sorted_by R es) (sorted_by-rises es)

      -- what is in order already
      pub sorted_by-same : (es : List (K × A)) → T (is_sorted R es) → sorted_by R es ≡ es
      sorted_by-same es h = same_entries R o same (sorted_by R es) es (sorted_by-rises es) h (find-sorted_by es)

      -- an entry with a new key, put in
      pub sorted_by-more : (es : List (K × A)) (k : K) (v : A) → find R k es ≡ None → put R k v (sorted_by R es) ≡ sorted_by R (es ++ (k, v) ∷ [])
      sorted_by-more es k v none = same_entries R o same (put R k v (sorted_by R es)) (sorted_by R (es ++ (k, v) ∷ [])) (is_sorted-put R o k v (sorted_by R es) (sorted_by-rises es)) (sorted_by-rises (es ++ (k, v) ∷ [])) (λ q.
          find-put R o q k v (sorted_by R es)
          ∙ ap (λ r. cond (eq_by_cmp R q k) (Some v) r) (find-sorted_by es q)
          ∙ sym (find-append R o es k v q none)
          ∙ sym (find-sorted_by (es ++ (k, v) ∷ []) q))

      -- two entries with different keys may be put in either order
      pub put-swap : (k l : K) (v w : A) (es : List (K × A)) → (k ≡ l → ⊥) → T (is_sorted R es) → put R k v (put R l w es) ≡ put R l w (put R k v es)
      put-swap k l v w es other h = same_entries R o same (put R k v (put R l w es)) (put R l w (put R k v es)) (is_sorted-put R o k v (put R l w es) (is_sorted-put R o l w es h)) (is_sorted-put R o l w (put R k v es) (is_sorted-put R o k v es h)) (λ q.
          find-put R o q k v (put R l w es)
          ∙ ap (λ r. cond (eq_by_cmp R q k) (Some v) r) (find-put R o q l w es)
          ∙ apart_tests (eq_by_cmp R q k) (eq_by_cmp R q l) (Some v) (Some w) (find R q es) (λ a b. other (sym (tied R same q k a) ∙ tied R same q l b))
          ∙ sym (ap (λ r. cond (eq_by_cmp R q l) (Some w) r) (find-put R o q k v es))
          ∙ sym (find-put R o q l w (put R k v es)))
