-- Listeners that are members of lists in order.
use Rattle.std.proofs.Common.{refl, sym, ◌∙◌, ap, subst, ◌≡◌, arith, length, List, [], ◌∷◌, ◌++◌, filter, Bool, true, false, not, cond, ◌||◌, true≢false, Ordering, Less, Equal, Greater, is_eq, is_lt, ◌⊎◌, inl, inr}
use Rattle.std.specs.List.{list_any, AllByRecursion, dedup, dedup_from}
use Rattle.std.specs.List.Sorted.{IsPermutation, IsSorted, IsStrictlySortedBy}
use Rattle.std.specs.BTreeSet.{insert_key}
use Rattle.std.specs.Ordering.{ordering_reverse}
use Rattle.std.specs.Cmp.{tied_itself, both_ways}
use Rattle.std.proofs.lemmas.Bool.{or_cases, or_parts, or_left, or_right}
use Rattle.std.proofs.lemmas.List.Folds.{list_any-append}
use Rattle.std.proofs.lemmas.List.Kept.{IsStrictlySortedBy-filter, IsStrictlySortedBy-dedup}
use Rattle.std.proofs.lemmas.List.Sorted.{list_any-IsPermutation}
use Rattle.std.proofs.lemmas.Map.Keys.{sorted_head, sorted_tail}
use Rattle.pres_write.specs.Basics.{BasicWrite}
use Rattle.pres_fan.specs.declared.listeners.Listener.{Listener}
use Rattle.pres_fan.specs.declared.level.Level.{Level}
use Rattle.pres_fan.specs.Levels.{heard, AreHeard}
use Rattle.pres_fan.specs.Listeners.{listener_cmp, same_listener, is_touched, IsListeners}
use Rattle.pres_fan.proofs.Orders.{listener_total, listener_apart, listener_same, listener_itself}
use Rattle.pres_fan.proofs.Lists.{passes, filter_all, filter_put_other, any_under}

-- ---- two lists of listeners in order with the same members are one

pub all_any : (P : Listener → Type 0) (l : Listener) (ls : List Listener) → AllByRecursion P ls → list_any (same_listener l) ls ≡ true → P l
all_any P l [] a h = absurd (true≢false (sym h))
all_any P l (x ∷ xs) a h = by (or_cases (same_listener l x) (list_any (same_listener l) xs) h) (all_any P l xs a.1) where
  by : (same_listener l x ≡ true) ⊎ (list_any (same_listener l) xs ≡ true) → (list_any (same_listener l) xs ≡ true → P l) → P l
  by (inl e) f = subst P (sym (listener_same l x e)) a.0
  by (inr e) f = f e

not_both : (k l : Listener) → listener_cmp k l ≡ Less → listener_cmp l k ≡ Less → true ≡ false
not_both k l e f = ap is_lt (sym e ∙ listener_total.antisymm k l ∙ ap ordering_reverse f)

not_itself : (l : Listener) → listener_cmp l l ≡ Less → true ≡ false
not_itself l e = ap is_eq (sym (tied_itself listener_total l) ∙ e)

heads : (x y : Listener) (xs ys : List Listener) → IsStrictlySortedBy listener_cmp (x ∷ xs) → IsStrictlySortedBy listener_cmp (y ∷ ys) →
    list_any (same_listener x) (y ∷ ys) ≡ true → list_any (same_listener y) (x ∷ xs) ≡ true → x ≡ y
heads x y xs ys sx sy h g = by (or_cases (same_listener x y) _ h) (or_cases (same_listener y x) _ g) where
  by : (same_listener x y ≡ true) ⊎ (list_any (same_listener x) ys ≡ true) → (same_listener y x ≡ true) ⊎ (list_any (same_listener y) xs ≡ true) → x ≡ y
  by (inl e) f = listener_same x y e
  by (inr e) (inl f) = sym (listener_same y x f)
  by (inr e) (inr f) =
      absurd (true≢false (not_both x y (all_any (λ z. listener_cmp x z ≡ Less) y xs (sorted_head listener_cmp x xs sx) f)
      (all_any (λ z. listener_cmp y z ≡ Less) x ys (sorted_head listener_cmp y ys sy) e)))

-- a member of the first tail is one of the second
in_tail : (x y : Listener) (xs ys : List Listener) → x ≡ y → IsStrictlySortedBy listener_cmp (x ∷ xs) →
    ((l : Listener) → list_any (same_listener l) (x ∷ xs) ≡ true → list_any (same_listener l) (y ∷ ys) ≡ true) →
    (l : Listener) → list_any (same_listener l) xs ≡ true → list_any (same_listener l) ys ≡ true
in_tail x y xs ys is sx f l h = by (or_cases (same_listener l y) (list_any (same_listener l) ys) (f l (or_right (same_listener l x) _ h))) where
  by : (same_listener l y ≡ true) ⊎ (list_any (same_listener l) ys ≡ true) → list_any (same_listener l) ys ≡ true
  by (inl e) = absurd (true≢false (not_itself x (subst (λ z. listener_cmp x z ≡ Less) (listener_same l y e ∙ sym is) (all_any (λ z. listener_cmp x z ≡ Less) l xs (sorted_head listener_cmp x xs sx) h))))
  by (inr e) = e

pub same_members : (xs ys : List Listener) → IsStrictlySortedBy listener_cmp xs → IsStrictlySortedBy listener_cmp ys →
    ((l : Listener) → list_any (same_listener l) xs ≡ true → list_any (same_listener l) ys ≡ true) →
    ((l : Listener) → list_any (same_listener l) ys ≡ true → list_any (same_listener l) xs ≡ true) → xs ≡ ys
same_members [] [] sx sy f g = refl
same_members [] (y ∷ ys) sx sy f g = absurd (true≢false (sym (g y (or_left (same_listener y y) _ (listener_itself y)))))
same_members (x ∷ xs) [] sx sy f g = absurd (true≢false (sym (f x (or_left (same_listener x x) _ (listener_itself x)))))
same_members (x ∷ xs) (y ∷ ys) sx sy f g =
    let is = heads x y xs ys sx sy (f x (or_left (same_listener x x) _ (listener_itself x))) (g y (or_left (same_listener y y) _ (listener_itself y))) in
    let rest = same_members xs ys (sorted_tail listener_cmp x xs sx) (sorted_tail listener_cmp y ys sy) (in_tail x y xs ys is sx f) (in_tail y x ys xs (sym is) sy g) in
    λ i. is i ∷ rest i

-- ---- one listener more

-- one listener more at the end
pub keeps_listener : (k l : Listener) (ls : List Listener) → list_any (same_listener l) ls ≡ true → list_any (same_listener l) (ls ++ k ∷ []) ≡ true
keeps_listener k l ls h = list_any-append (same_listener l) ls (k ∷ []) ∙ or_left _ _ h

pub has_listener : (k : Listener) (ls : List Listener) → list_any (same_listener k) (ls ++ k ∷ []) ≡ true
has_listener k ls = list_any-append (same_listener k) ls (k ∷ []) ∙ or_right (list_any (same_listener k) ls) _ (or_left (same_listener k k) false (listener_itself k))

pub all_behind : (P : Listener → Type 0) (k : Listener) (ls : List Listener) → AllByRecursion P ls → P k → AllByRecursion P (ls ++ k ∷ [])
all_behind P k [] a one = (one, tt)
all_behind P k (l ∷ ls) a one = (a.0, all_behind P k ls a.1 one)

pub none_same : (k : Listener) (ls : List Listener) → list_any (same_listener k) ls ≡ false → AllByRecursion (λ l. not (same_listener k l) ≡ true) ls
none_same k [] h = tt
none_same k (l ∷ ls) h = let each = or_parts (same_listener k l) _ h in (ap not each.0, none_same k ls each.1)

-- a listener that was not there is taken back
pub taken_back : (k : Listener) (ls : List Listener) → list_any (same_listener k) ls ≡ false → filter (λ l. not (same_listener k l)) (insert_key listener_cmp ls k) ≡ ls
taken_back k ls new = filter_put_other listener_cmp k (λ l. not (same_listener k l)) (ap not (listener_itself k)) ls ∙ filter_all (λ l. not (same_listener k l)) ls (none_same k ls new)

pub tie : (o : Ordering) → is_eq o ≡ true → o ≡ Equal
tie Less h = absurd (true≢false (sym h))
tie Equal h = refl
tie Greater h = absurd (true≢false (sym h))

-- ---- those found are all that writes touch

pub in_filter : (p : Listener → Bool) (l : Listener) (ls : List Listener) → p l ≡ true → list_any (same_listener l) ls ≡ true → list_any (same_listener l) (filter p ls) ≡ true
in_filter p l ls e h = any_under (same_listener l) p (λ x k. ap p (sym (listener_same l x k)) ∙ e) ls ∙ h

pub of_filter : (p : Listener → Bool) (l : Listener) (ls : List Listener) → list_any (same_listener l) (filter p ls) ≡ true → (p l ≡ true) × (list_any (same_listener l) ls ≡ true)
of_filter p l ls h = (all_any (λ m. p m ≡ true) l (filter p ls) (passes p ls) h, kept ls h) where
  kept : (ms : List Listener) → list_any (same_listener l) (filter p ms) ≡ true → list_any (same_listener l) ms ≡ true
  kept [] k = k
  kept (m ∷ ms) k = by (p m) k (kept ms) where
    later : (same_listener l m ≡ true) ⊎ (list_any (same_listener l) (filter p ms) ≡ true) → (list_any (same_listener l) (filter p ms) ≡ true → list_any (same_listener l) ms ≡ true) → (same_listener l m || list_any (same_listener l) ms) ≡ true
    later (inl e) f = or_left (same_listener l m) _ e
    later (inr e) f = or_right (same_listener l m) _ (f e)

    by : (b : Bool) → list_any (same_listener l) (cond b (m ∷ filter p ms) (filter p ms)) ≡ true → (list_any (same_listener l) (filter p ms) ≡ true → list_any (same_listener l) ms ≡ true) → (same_listener l m || list_any (same_listener l) ms) ≡ true
    by true e f = later (or_cases (same_listener l m) (list_any (same_listener l) (filter p ms)) e) f
    by false e f = or_right (same_listener l m) _ (f e)

-- those found, each once and in order, where they are the listeners whose paths the writes touch
pub found_touched : (writes : List BasicWrite) (ls found : List Listener) (root : Level) → IsListeners ls → AreHeard ls root → IsStrictlySortedBy listener_cmp found →
    ((l : Listener) → is_touched writes l.path ≡ true → heard l.path l.session root ≡ true → list_any (same_listener l) found ≡ true) →
    ((l : Listener) → list_any (same_listener l) found ≡ true → (is_touched writes l.path ≡ true) × (heard l.path l.session root ≡ true)) →
    found ≡ filter (λ l. is_touched writes l.path) ls
found_touched writes ls found root held are sorted finds only =
    same_members found (filter touches ls) sorted (IsStrictlySortedBy-filter listener_cmp touches ls held.ordered)
    (λ l h. let is = only l h in in_filter touches l ls is.0 (sym (are.heard_where l.path l.session) ∙ is.1))
    (λ l h. let is = of_filter touches l ls h in finds l is.0 (are.heard_where l.path l.session ∙ is.1))
  where
    touches : Listener → Bool
    touches l = is_touched writes l.path

pub nothing_left : (ls : List Listener) → length ls ≡ 0 → ls ≡ []
nothing_left [] h = refl
nothing_left (l ∷ ls) h = absurd (omega (arith, h))

-- the order ties what is equal
pub ties : (l k : Listener) → is_eq (listener_cmp l k) ≡ same_listener l k
ties l k =
    both_ways (is_eq (listener_cmp l k)) (same_listener l k)
    (λ e. ap (same_listener l) (sym (listener_apart l k (tie (listener_cmp l k) e))) ∙ listener_itself l)
    (λ e. ap is_eq (ap (listener_cmp l) (sym (listener_same l k e)) ∙ tied_itself listener_total l))

-- ---- sorted, and each once

once_from : (l k : Listener) (xs : List Listener) → list_any (same_listener l) (k ∷ xs) ≡ true → list_any (same_listener l) (dedup_from same_listener k xs) ≡ true
once_from l k [] h = h
once_from l k (x ∷ xs) h = by (same_listener x k) refl (once_from l k xs) (once_from l x xs) where
  tail : (same_listener l k ≡ true) ⊎ (list_any (same_listener l) (x ∷ xs) ≡ true) → same_listener x k ≡ true → list_any (same_listener l) (k ∷ xs) ≡ true
  tail (inl e) f = or_left (same_listener l k) _ e
  tail (inr e) f = ap (λ y. same_listener l y || list_any (same_listener l) xs) (sym (listener_same x k f)) ∙ e

  later : (same_listener l k ≡ true) ⊎ (list_any (same_listener l) (x ∷ xs) ≡ true) → (list_any (same_listener l) (x ∷ xs) ≡ true → list_any (same_listener l) (dedup_from same_listener x xs) ≡ true) → (same_listener l k || list_any (same_listener l) (dedup_from same_listener x xs)) ≡ true
  later (inl e) f = or_left (same_listener l k) _ e
  later (inr e) f = or_right (same_listener l k) _ (f e)

  by : (b : Bool) → same_listener x k ≡ b → (list_any (same_listener l) (k ∷ xs) ≡ true → list_any (same_listener l) (dedup_from same_listener k xs) ≡ true) → (list_any (same_listener l) (x ∷ xs) ≡ true → list_any (same_listener l) (dedup_from same_listener x xs) ≡ true) →
      list_any (same_listener l) (cond b (dedup_from same_listener k xs) (k ∷ dedup_from same_listener x xs)) ≡ true
  by true e f g = f (tail (or_cases (same_listener l k) _ h) e)
  by false e f g = later (or_cases (same_listener l k) _ h) g

once : (l : Listener) (xs : List Listener) → list_any (same_listener l) xs ≡ true → list_any (same_listener l) (dedup same_listener xs) ≡ true
once l [] h = h
once l (x ∷ xs) h = once_from l x xs h

pub none_ordered : IsStrictlySortedBy listener_cmp []
unfolding IsStrictlySortedBy
none_ordered = tt

once_back : (l k : Listener) (xs : List Listener) → list_any (same_listener l) (dedup_from same_listener k xs) ≡ true → list_any (same_listener l) (k ∷ xs) ≡ true
once_back l k [] h = h
once_back l k (x ∷ xs) h = by (same_listener x k) h (once_back l k xs) (once_back l x xs) where
  one : (same_listener l k ≡ true) ⊎ (list_any (same_listener l) xs ≡ true) → list_any (same_listener l) (k ∷ x ∷ xs) ≡ true
  one (inl e) = or_left (same_listener l k) _ e
  one (inr e) = or_right (same_listener l k) _ (or_right (same_listener l x) _ e)

  two : (same_listener l k ≡ true) ⊎ (list_any (same_listener l) (dedup_from same_listener x xs) ≡ true) → (list_any (same_listener l) (dedup_from same_listener x xs) ≡ true → list_any (same_listener l) (x ∷ xs) ≡ true) → list_any (same_listener l) (k ∷ x ∷ xs) ≡ true
  two (inl e) f = or_left (same_listener l k) _ e
  two (inr e) f = or_right (same_listener l k) _ (f e)

  by : (b : Bool) → list_any (same_listener l) (cond b (dedup_from same_listener k xs) (k ∷ dedup_from same_listener x xs)) ≡ true →
      (list_any (same_listener l) (dedup_from same_listener k xs) ≡ true → list_any (same_listener l) (k ∷ xs) ≡ true) → (list_any (same_listener l) (dedup_from same_listener x xs) ≡ true → list_any (same_listener l) (x ∷ xs) ≡ true) →
      list_any (same_listener l) (k ∷ x ∷ xs) ≡ true
  by true e f g = one (or_cases (same_listener l k) _ (f e))
  by false e f g = two (or_cases (same_listener l k) _ e) g

was_there : (l : Listener) (xs : List Listener) → list_any (same_listener l) (dedup same_listener xs) ≡ true → list_any (same_listener l) xs ≡ true
was_there l [] h = h
was_there l (x ∷ xs) h = once_back l x xs h

-- sorted, and each once: in order, with the same members
pub record Tidied (xs zs : List Listener) : Type 0 where
  pub ordered : IsStrictlySortedBy listener_cmp zs
  pub kept : (l : Listener) → list_any (same_listener l) xs ≡ true → list_any (same_listener l) zs ≡ true
  pub only : (l : Listener) → list_any (same_listener l) zs ≡ true → list_any (same_listener l) xs ≡ true

pub tidied : (same : Listener → Listener → Bool) → ((k l : Listener) → same k l ≡ same_listener k l) → (xs ys zs : List Listener) → IsPermutation xs ys → IsSorted listener_cmp ys → zs ≡ dedup same ys → Tidied xs zs
tidied same agree xs ys zs moved sorted is =
    let each_once : zs ≡ dedup same_listener ys = is ∙ (λ i. dedup (λ k l. agree k l i) ys) in
    record {
      ordered = subst (IsStrictlySortedBy listener_cmp) (sym each_once) (IsStrictlySortedBy-dedup listener_total (λ k l. sym (ties k l)) ys sorted);
      kept = λ l h. subst (λ ms. list_any (same_listener l) ms ≡ true) (sym each_once) (once l ys (sym (list_any-IsPermutation (same_listener l) xs ys moved) ∙ h));
      only = λ l h. list_any-IsPermutation (same_listener l) xs ys moved ∙ was_there l ys (subst (λ ms. list_any (same_listener l) ms ≡ true) each_once h);
    }

pub nobody_listens : IsListeners []
nobody_listens = record { ordered = none_ordered; few = λ s. omega arith }
