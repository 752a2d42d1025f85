-- Paths that meet: one is at the other or above it.
use Rattle.std.proofs.Common.{◌≡◌, ℕ, List, [], ◌∷◌, ◌++◌, map, Bool, true, false, cond, ◌||◌, Option, Some, None, is_some, refl, sym, ap, subst, ◌∙◌}
use Rattle.std.proofs.lemmas.Bool.{false≢true}
use Rattle.std.proofs.lemmas.List.Folds.{list_any-append}
use Rattle.std.specs.List.{list_any, AllByRecursion}
use Rattle.std.specs.List.Sorted.{IsStrictlySortedBy}
use Rattle.std.specs.Ordering.{is_eq, ordering_then, ordering_reverse}
use Rattle.std.specs.declared.cmp.Ordering.{Ordering}
use Rattle.std.specs.declared.cmp.Ordering.TheVariants.{Less, Equal, Greater}
use Rattle.std.specs.Cmp.{tied_itself}
use Rattle.std.specs.Cmp.Lexicographic.{nat_list_cmp_total}
use Rattle.std.specs.FinMap.Entries.{put, find, by_order}
use Rattle.std.specs.Map.{keys_of}
use Rattle.pres_tree.specs.Keys.{Key, key_cmp, same_key}
use Rattle.pres_tree.specs.Paths.{Path, path_cmp, below, is_prefix, meet, overlap}
use Rattle.pres_tree.proofs.Found.{key_same}
use Rattle.pres_tree.specs.Rows.{Rows}
use Rattle.pres_write.specs.declared.draft.DraftLeaf.{DraftLeaf}
use Rattle.pres_tree.specs.declared.scalar.Scalar.{Scalar}
use Rattle.pres_write.specs.Settling.{settled_write}
use Rattle.pres_write.specs.Updates.{Places, update_writes}
use Rattle.pres_write.proofs.Ordered.{any-put}

-- ---- prefixes

same_itself : (k : Key) → same_key k k ≡ true
same_itself k = ap is_eq (tied_itself nat_list_cmp_total k)

pub below-itself : (p : Path) → below p p ≡ Some []
below-itself [] = refl
below-itself (k ∷ p) = ap (λ b. cond b (below p p) None) (same_itself k) ∙ below-itself p

below-joined : (p x y : Path) → below (p ++ x) (p ++ y) ≡ below x y
below-joined [] x y = refl
below-joined (k ∷ p) x y = ap (λ b. cond b (below (p ++ x) (p ++ y)) None) (same_itself k) ∙ below-joined p x y

pub meet-joined : (p x y : Path) → meet (p ++ x) (p ++ y) ≡ meet x y
meet-joined p x y = λ i. is_some (below-joined p x y i) || is_some (below-joined p y x i)

-- what goes on with a path is not below it in path order
not_above : (p x : Path) → path_cmp p x ≡ Less → is_prefix x p ≡ false
not_above [] [] h = absurd cc
not_above (k ∷ p) [] h = absurd cc
not_above [] (l ∷ x) h = refl
not_above (k ∷ p) (l ∷ x) h =
    let flip = nat_list_cmp_total.antisymm k l in
    elim (key_cmp l k) as (λ o. key_cmp k l ≡ ordering_reverse o → is_some (cond (is_eq o) (below x p) None) ≡ false) [
      | Less ↦ λ e. refl
      | Equal ↦ λ e. not_above p x (sym (ap (λ r. ordering_then r (path_cmp p x)) e) ∙ h)
      | Greater ↦ λ e. refl
    ] flip

-- a path between another one and what goes on with that goes on with it too
pub between : (p q x : Path) → path_cmp p q ≡ Less → path_cmp q x ≡ Less → is_prefix p x ≡ true → is_prefix p q ≡ true
between [] q x lo hi goes = refl
between (k ∷ p) [] x lo hi goes = absurd cc
between (k ∷ p) (l ∷ q) [] lo hi goes = absurd (false≢true goes)
between (k ∷ p) (l ∷ q) (m ∷ x) lo hi goes =
    elim (same_key k m) as (λ b. same_key k m ≡ b → is_some (cond b (below p x) None) ≡ true → is_some (cond (same_key k l) (below p q) None) ≡ true) [
      | true ↦ λ e g.
          let flip : key_cmp l m ≡ ordering_reverse (key_cmp k l) = ap (key_cmp l) (sym (key_same k m e)) ∙ nat_list_cmp_total.antisymm l k in
          elim (key_cmp k l) as (λ o. key_cmp l m ≡ ordering_reverse o → ordering_then o (path_cmp p q) ≡ Less → is_some (cond (is_eq o) (below p q) None) ≡ true) [
            | Less ↦ λ r low. let up : Greater ≡ Less = sym (ap (λ s. ordering_then s (path_cmp q x)) r) ∙ hi in absurd cc
            | Equal ↦ λ r low. between p q x low (sym (ap (λ s. ordering_then s (path_cmp q x)) r) ∙ hi) g
            | Greater ↦ λ r low. absurd cc
          ] flip lo
      | false ↦ λ e g. absurd (false≢true g)
    ] refl goes

-- ---- paths in order: one that does not go on with the path before it goes on with none before it

apart : (p q x : Path) → path_cmp p q ≡ Less → is_prefix p q ≡ false → path_cmp p x ≡ Less → path_cmp q x ≡ Less → meet p x ≡ false
apart p q x first other low high =
    let above : is_prefix p x ≡ false = elim (is_prefix p x) as (λ b. is_prefix p x ≡ b → b ≡ false) [
      | true ↦ λ e. absurd (false≢true (sym other ∙ between p q x first high e))
      | false ↦ λ e. refl
    ] refl in
    λ i. above i || not_above p x low i

apart_all : (p q : Path) (xs : List Path) → path_cmp p q ≡ Less → is_prefix p q ≡ false → AllByRecursion (λ x. path_cmp p x ≡ Less) xs → AllByRecursion (λ x. path_cmp q x ≡ Less) xs → list_any (meet p) xs ≡ false
apart_all p q [] first other low high = refl
apart_all p q (x ∷ xs) first other low high = λ i. apart p q x first other low.0 high.0 i || apart_all p q xs first other low.1 high.1 i

pub overlap-next : (p q : Path) (xs : List Path) → IsStrictlySortedBy path_cmp (p ∷ q ∷ xs) → is_prefix p q ≡ false → overlap (p ∷ q ∷ xs) ≡ overlap (q ∷ xs)
unfolding IsStrictlySortedBy
overlap-next p q xs order other = λ i. ((other i || not_above p q order.0.0 i) || apart_all p q xs order.0.0 other order.0.1 order.1.0 i) || overlap (q ∷ xs)

-- the path that a walk has seen last, before those that are left
abbrev pub with_last : Option Path → List Path → List Path
with_last None ps = ps
with_last (Some p) ps = p ∷ ps

-- what is left to see, from the first of the paths that are left on
abbrev pub Left : Bool → Option Path → List Path → Type 0
Left b o ps = (b ≡ overlap (with_last o ps)) × IsStrictlySortedBy path_cmp (with_last o ps)

pub left_next : (b : Bool) (o : Option Path) (p q : Path) (ps : List Path) → o ≡ Some p → is_prefix p q ≡ false → Left b o (q ∷ ps) → Left b (Some q) ps
unfolding IsStrictlySortedBy
left_next b o p q ps e other h =
    let here : Left b (Some p) (q ∷ ps) = subst (λ r. Left b r (q ∷ ps)) e h in
    (here.0 ∙ overlap-next p q ps here.1 other, here.1.1)

pub left_first : (b : Bool) (o : Option Path) (q : Path) (ps : List Path) → o ≡ None → Left b o (q ∷ ps) → Left b (Some q) ps
left_first b o q ps e h = subst (λ r. Left b r (q ∷ ps)) e h

-- ---- in any order

pub meet-itself : (p : Path) → meet p p ≡ true
meet-itself p = ap (λ o. is_some o || is_prefix p p) (below-itself p)

pub meet-sym : (p q : Path) → meet p q ≡ meet q p
meet-sym p q = swap (is_prefix p q) (is_prefix q p) where
  swap : (a b : Bool) → (a || b) ≡ (b || a)
  swap true true = refl
  swap true false = refl
  swap false true = refl
  swap false false = refl

moved : (m a b c : Bool) → ((m || a) || (b || c)) ≡ ((m || b) || (a || c))
moved true a b c = refl
moved false true true c = refl
moved false true false c = refl
moved false false b c = refl

pub overlap-put : {K A : Type 0} (R : K → K → Ordering) → ((x y : K) → R x y ≡ Equal → x ≡ y) → (h : K → Path) (k : K) (v : A) (es : List (K × A)) → find R k es ≡ None
    → overlap (map (λ e. h e.0) (put R k v es)) ≡ overlap (h k ∷ map (λ e. h e.0) es)
overlap-put R same h k v [] none = refl
overlap-put R same h k v (e ∷ es) none = elim (R k e.0) as (λ r. cond (is_eq r) (Some e.1) (find R k es) ≡ None → overlap (map (λ e. h e.0) (by_order r ((k, v) ∷ e ∷ es) ((e.0, v) ∷ es) (e ∷ put R k v es))) ≡ overlap (h k ∷ h e.0 ∷ map (λ e. h e.0) es)) [
  | Less ↦ λ n. refl
  | Equal ↦ λ n. absurd cc
  | Greater ↦ λ n.
      (λ i. any-put R same h (meet (h e.0)) k v es i || overlap-put R same h k v es n i)
      ∙ moved (meet (h e.0) (h k)) (list_any (meet (h e.0)) (map (λ e. h e.0) es)) (list_any (meet (h k)) (map (λ e. h e.0) es)) (overlap (map (λ e. h e.0) es))
      ∙ ap (λ b. (b || list_any (meet (h k)) (map (λ e. h e.0) es)) || (list_any (meet (h e.0)) (map (λ e. h e.0) es) || overlap (map (λ e. h e.0) es))) (meet-sym (h e.0) (h k))
] none

pub or_false : (a : Bool) → (a || false) ≡ a
or_false true = refl
or_false false = refl

pub or_swap : (a b : Bool) → (a || b) ≡ (b || a)
or_swap true true = refl
or_swap true false = refl
or_swap false true = refl
or_swap false false = refl

-- one path more
pub overlap-more : (ps : List Path) (q : Path) → overlap (ps ++ q ∷ []) ≡ (list_any (meet q) ps || overlap ps)
overlap-more [] q = refl
overlap-more (p ∷ ps) q =
    (λ i. (list_any-append (meet p) ps (q ∷ []) ∙ ap (λ b. list_any (meet p) ps || b) (or_false (meet p q)) ∙ or_swap (list_any (meet p) ps) (meet p q)) i || overlap-more ps q i)
    ∙ moved (meet p q) (list_any (meet p) ps) (list_any (meet q) ps) (overlap ps)
    ∙ ap (λ b. (b || list_any (meet q) ps) || (list_any (meet p) ps || overlap ps)) (meet-sym p q)

-- paths below one path
any-joined : (p x : Path) (ps : List Path) → list_any (meet (p ++ x)) (map (λ q. p ++ q) ps) ≡ list_any (meet x) ps
any-joined p x [] = refl
any-joined p x (q ∷ ps) = λ i. meet-joined p x q i || any-joined p x ps i

pub overlap-joined : (p : Path) (ps : List Path) → overlap (map (λ q. p ++ q) ps) ≡ overlap ps
overlap-joined p [] = refl
overlap-joined p (q ∷ ps) = λ i. any-joined p q ps i || overlap-joined p ps i

pub paths_of_writes : (p : Path) (tree : Rows Scalar) (moment : ℕ) (es : Places) → map (λ b. b.path) (update_writes tree moment (record { path = p; places = es })) ≡ map (λ q. p ++ q) (keys_of es)
paths_of_writes p tree moment [] = refl
paths_of_writes p tree moment (e ∷ es) = ap (λ ps. (p ++ e.0) ∷ ps) (paths_of_writes p tree moment es)

-- the write of one place more
pub writes_more : (p : Path) (tree : Rows Scalar) (moment : ℕ) (done : Places) (e : Path × Rows DraftLeaf) → update_writes tree moment (record { path = p; places = done ++ e ∷ [] }) ≡ update_writes tree moment (record { path = p; places = done }) ++ settled_write tree moment (p ++ e.0, e.1) ∷ []
writes_more p tree moment [] e = refl
writes_more p tree moment (d ∷ done) e = ap (λ ws. settled_write tree moment (p ++ d.0, d.1) ∷ ws) (writes_more p tree moment done e)
