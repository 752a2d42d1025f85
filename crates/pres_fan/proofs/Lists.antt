-- Filters over filters, and keys put into lists in order.
use Rattle.std.proofs.Common.{refl, sym, ◌∙◌, ap, ◌≡◌, suc, List, [], ◌∷◌, length, map, filter, Bool, true, false, cond, ◌||◌, ◌&&◌, true≢false, Ordering, Less, Equal, Greater, is_eq, ◌⊎◌, inl, inr}
use Rattle.std.specs.List.{list_any, AllByRecursion}
use Rattle.std.specs.List.Sorted.{IsStrictlySortedBy}
use Rattle.std.specs.BTreeSet.{insert_key}
use Rattle.std.specs.Cmp.{IsTotalOrder, tied_itself, both_ways}
use Rattle.std.specs.Ordering.{match_ordering, ordering_reverse}
use Rattle.std.proofs.lemmas.Bool.{or_cases, or_parts, or_left, or_right}
use Rattle.std.proofs.lemmas.Map.Keys.{sorted_head, sorted_tail}

module _ {A : Type 0} where
  -- two tests that agree on what a filter keeps leave it the same
  pub under : (p q r : A → Bool) → ((x : A) → p x ≡ true → q x ≡ r x) → (xs : List A) → filter p (filter q xs) ≡ filter p (filter r xs)
  under p q r agree [] = refl
  under p q r agree (x ∷ xs) = by (p x) refl (under p q r agree xs) where
    skip : (b : Bool) → p x ≡ false → (ys : List A) → filter p (cond b (x ∷ ys) ys) ≡ filter p ys
    skip true e ys = ap (λ b. cond b (x ∷ filter p ys) (filter p ys)) e
    skip false e ys = refl

    keep : (b : Bool) → filter p (filter q xs) ≡ filter p (filter r xs) → filter p (cond b (x ∷ filter q xs) (filter q xs)) ≡ filter p (cond b (x ∷ filter r xs) (filter r xs))
    keep true h = ap (λ l. cond (p x) (x ∷ l) l) h
    keep false h = h

    by : (b : Bool) → p x ≡ b → filter p (filter q xs) ≡ filter p (filter r xs) → filter p (filter q (x ∷ xs)) ≡ filter p (filter r (x ∷ xs))
    by true e h = keep (q x) h ∙ ap (λ b. filter p (cond b (x ∷ filter r xs) (filter r xs))) (agree x e)
    by false e h = skip (q x) e (filter q xs) ∙ h ∙ sym (skip (r x) e (filter r xs))

  pub all_kept : (xs : List A) → filter (λ x. true) xs ≡ xs
  all_kept [] = refl
  all_kept (x ∷ xs) = ap (λ l. x ∷ l) (all_kept xs)

  pub none_kept : (xs : List A) → filter (λ x. false) xs ≡ []
  none_kept [] = refl
  none_kept (x ∷ xs) = none_kept xs

  -- a test of what a function gives may come before the function
  pub filter_map_later : {B : Type 0} (f : A → B) (p : A → Bool) (q : B → Bool) (xs : List A) → map f (filter p (filter (λ x. q (f x)) xs)) ≡ filter q (map f (filter p xs))
  filter_map_later f p q [] = refl
  filter_map_later {B} f p q (x ∷ xs) = by (p x) refl (q (f x)) refl (filter_map_later f p q xs) where
    L : Bool → List B
    L c = map f (filter p (cond c (x ∷ filter (λ y. q (f y)) xs) (filter (λ y. q (f y)) xs)))

    by : (b : Bool) → p x ≡ b → (c : Bool) → q (f x) ≡ c → map f (filter p (filter (λ y. q (f y)) xs)) ≡ filter q (map f (filter p xs)) → map f (filter p (filter (λ y. q (f y)) (x ∷ xs))) ≡ filter q (map f (filter p (x ∷ xs)))
    by true e true k h =
        ap L k ∙ ap (λ b. map f (cond b (x ∷ filter p (filter (λ y. q (f y)) xs)) (filter p (filter (λ y. q (f y)) xs)))) e
        ∙ ap (λ l. f x ∷ l) h
        ∙ sym (ap (λ c. cond c (f x ∷ filter q (map f (filter p xs))) (filter q (map f (filter p xs)))) k)
        ∙ sym (ap (λ b. filter q (map f (cond b (x ∷ filter p xs) (filter p xs)))) e)
    by true e false k h =
        ap L k ∙ h
        ∙ sym (ap (λ c. cond c (f x ∷ filter q (map f (filter p xs))) (filter q (map f (filter p xs)))) k)
        ∙ sym (ap (λ b. filter q (map f (cond b (x ∷ filter p xs) (filter p xs)))) e)
    by false e true k h =
        ap L k ∙ ap (λ b. map f (cond b (x ∷ filter p (filter (λ y. q (f y)) xs)) (filter p (filter (λ y. q (f y)) xs)))) e
        ∙ h
        ∙ sym (ap (λ b. filter q (map f (cond b (x ∷ filter p xs) (filter p xs)))) e)
    by false e false k h =
        ap L k ∙ h
        ∙ sym (ap (λ b. filter q (map f (cond b (x ∷ filter p xs) (filter p xs)))) e)

  pub all_filtered : (P : A → Type 0) (p : A → Bool) (xs : List A) → AllByRecursion P xs → AllByRecursion P (filter p xs)
  all_filtered P p [] a = tt
  all_filtered P p (x ∷ xs) a = by (p x) (all_filtered P p xs a.1) where
    by : (b : Bool) → AllByRecursion P (filter p xs) → AllByRecursion P (cond b (x ∷ filter p xs) (filter p xs))
    by true h = (a.0, h)
    by false h = h

  pub passes : (p : A → Bool) (xs : List A) → AllByRecursion (λ x. p x ≡ true) (filter p xs)
  passes p [] = tt
  passes p (x ∷ xs) = by (p x) refl (passes p xs) where
    by : (b : Bool) → p x ≡ b → AllByRecursion (λ y. p y ≡ true) (filter p xs) → AllByRecursion (λ y. p y ≡ true) (cond b (x ∷ filter p xs) (filter p xs))
    by true e h = (e, h)
    by false e h = h

  pub all_then : (P Q : A → Type 0) → ((x : A) → P x → Q x) → (xs : List A) → AllByRecursion P xs → AllByRecursion Q xs
  all_then P Q f [] a = tt
  all_then P Q f (x ∷ xs) a = (f x a.0, all_then P Q f xs a.1)

  pub all_both : (P Q R : A → Type 0) → ((x : A) → P x → Q x → R x) → (xs : List A) → AllByRecursion P xs → AllByRecursion Q xs → AllByRecursion R xs
  all_both P Q R f [] a b = tt
  all_both P Q R f (x ∷ xs) a b = (f x a.0 b.0, all_both P Q R f xs a.1 b.1)

  -- a filter that all pass, and one that none passes
  pub filter_all : (p : A → Bool) (xs : List A) → AllByRecursion (λ x. p x ≡ true) xs → filter p xs ≡ xs
  filter_all p [] a = refl
  filter_all p (x ∷ xs) a = ap (λ b. cond b (x ∷ filter p xs) (filter p xs)) a.0 ∙ ap (λ l. x ∷ l) (filter_all p xs a.1)

  pub filter_none : (p : A → Bool) (xs : List A) → AllByRecursion (λ x. p x ≡ false) xs → filter p xs ≡ []
  filter_none p [] a = refl
  filter_none p (x ∷ xs) a = ap (λ b. cond b (x ∷ filter p xs) (filter p xs)) a.0 ∙ filter_none p xs a.1

  pub any_none : (p : A → Bool) (xs : List A) → AllByRecursion (λ x. p x ≡ false) xs → list_any p xs ≡ false
  any_none p [] a = refl
  any_none p (x ∷ xs) a = ap (λ b. b || list_any p xs) a.0 ∙ any_none p xs a.1

  -- what a filter leaves is seen after it
  pub any_under : (p q : A → Bool) → ((x : A) → p x ≡ true → q x ≡ true) → (xs : List A) → list_any p (filter q xs) ≡ list_any p xs
  any_under p q f [] = refl
  any_under p q f (x ∷ xs) = by (q x) refl (p x) refl (any_under p q f xs) where
    by : (b : Bool) → q x ≡ b → (c : Bool) → p x ≡ c → list_any p (filter q xs) ≡ list_any p xs → list_any p (cond b (x ∷ filter q xs) (filter q xs)) ≡ (p x || list_any p xs)
    by true e c k h = ap (λ r. p x || r) h
    by false e true k h = absurd (true≢false (sym (f x k) ∙ e))
    by false e false k h = h ∙ sym (ap (λ b. b || list_any p xs) k)

  -- ---- keys put in order

  module _ (cmp : A → A → Ordering) (k : A) where
    -- a key that the test refuses is not seen after the filter
    pub filter_put_other : (p : A → Bool) → p k ≡ false → (xs : List A) → filter p (insert_key cmp xs k) ≡ filter p xs
    filter_put_other p e [] = ap (λ b. cond b (k ∷ []) []) e
    filter_put_other p e (x ∷ xs) = by (cmp k x) (filter_put_other p e xs) where
      by : (o : Ordering) → filter p (insert_key cmp xs k) ≡ filter p xs → filter p (match_ordering o (k ∷ x ∷ xs) (x ∷ xs) (x ∷ insert_key cmp xs k)) ≡ filter p (x ∷ xs)
      by Less h = ap (λ b. cond b (k ∷ filter p (x ∷ xs)) (filter p (x ∷ xs))) e
      by Equal h = refl
      by Greater h = ap (λ l. cond (p x) (x ∷ l) l) h

    module _ (same : A → A → Bool) where
      -- a new key that the test passes is one more after the filter
      pub length_put_new : ((x : A) → cmp k x ≡ Equal → same k x ≡ true) → (p : A → Bool) → p k ≡ true → (xs : List A) → list_any (same k) xs ≡ false → length (filter p (insert_key cmp xs k)) ≡ suc (length (filter p xs))
      length_put_new ties p e [] n = ap (λ b. length (cond b (k ∷ []) [])) e
      length_put_new ties p e (x ∷ xs) n = by (cmp k x) refl (length_put_new ties p e xs (or_parts (same k x) _ n).1) where
        kept : (b : Bool) → length (filter p (insert_key cmp xs k)) ≡ suc (length (filter p xs)) → length (cond b (x ∷ filter p (insert_key cmp xs k)) (filter p (insert_key cmp xs k))) ≡ suc (length (cond b (x ∷ filter p xs) (filter p xs)))
        kept true h = ap suc h
        kept false h = h

        by : (o : Ordering) → cmp k x ≡ o → length (filter p (insert_key cmp xs k)) ≡ suc (length (filter p xs)) → length (filter p (match_ordering o (k ∷ x ∷ xs) (x ∷ xs) (x ∷ insert_key cmp xs k))) ≡ suc (length (filter p (x ∷ xs)))
        by Less o h = ap (λ b. length (cond b (k ∷ filter p (x ∷ xs)) (filter p (x ∷ xs)))) e
        by Equal o h = absurd (true≢false (sym (ties x o) ∙ (or_parts (same k x) _ n).0))
        by Greater o h = kept (p x) h

      -- a key that is there changes nothing
      pub put_again : IsTotalOrder cmp → ((x : A) → same k x ≡ true → k ≡ x) → (xs : List A) → IsStrictlySortedBy cmp xs → list_any (same k) xs ≡ true → insert_key cmp xs k ≡ xs
      put_again total is [] s h = absurd (true≢false (sym h))
      put_again total is (x ∷ xs) s h = by (cmp k x) refl (put_again total is xs (sorted_tail cmp x xs s)) where
        tied : same k x ≡ true → cmp k x ≡ Equal
        tied e = ap (cmp k) (sym (is x e)) ∙ tied_itself total k

        differs : (y : A) → cmp k y ≡ Less → same k y ≡ false
        differs y l = elim (same k y) as (λ b. same k y ≡ b → b ≡ false) [
          | true ↦ λ e. absurd (true≢false (ap is_eq (sym (tied_itself total k) ∙ ap (cmp k) (is y e) ∙ l)))
          | false ↦ λ e. refl
        ] refl

        by : (o : Ordering) → cmp k x ≡ o → (list_any (same k) xs ≡ true → insert_key cmp xs k ≡ xs) → match_ordering o (k ∷ x ∷ xs) (x ∷ xs) (x ∷ insert_key cmp xs k) ≡ x ∷ xs
        by Less o f =
            absurd (true≢false (sym h ∙ any_none (same k) (x ∷ xs)
            (all_then (λ y. cmp k y ≡ Less) (λ y. same k y ≡ false) differs (x ∷ xs)
            (o, all_then (λ y. cmp x y ≡ Less) (λ y. cmp k y ≡ Less) (λ y l. total.trans k x y o l) xs (sorted_head cmp x xs s)))))
        by Equal o f = refl
        by Greater o f = ap (λ l. x ∷ l) (f (rest (or_cases (same k x) _ h))) where
          rest : (same k x ≡ true) ⊎ (list_any (same k) xs ≡ true) → list_any (same k) xs ≡ true
          rest (inl e) = absurd (true≢false (ap is_eq (sym (tied e) ∙ o)))
          rest (inr e) = e

module _ {A : Type 0} (cmp : A → A → Ordering) (k : A) (p : A → Bool) where
  -- what is there stays
  pub put_keeps : (xs : List A) → list_any p xs ≡ true → list_any p (insert_key cmp xs k) ≡ true
  put_keeps [] h = absurd (true≢false (sym h))
  put_keeps (x ∷ xs) h = by (cmp k x) (put_keeps xs) where
    by : (o : Ordering) → (list_any p xs ≡ true → list_any p (insert_key cmp xs k) ≡ true) → list_any p (match_ordering o (k ∷ x ∷ xs) (x ∷ xs) (x ∷ insert_key cmp xs k)) ≡ true
    by Less f = or_right (p k) (list_any p (x ∷ xs)) h
    by Equal f = h
    by Greater f = later (or_cases (p x) (list_any p xs) h) where
      later : (p x ≡ true) ⊎ (list_any p xs ≡ true) → (p x || list_any p (insert_key cmp xs k)) ≡ true
      later (inl e) = ap (λ b. b || list_any p (insert_key cmp xs k)) e
      later (inr e) = or_right (p x) _ (f e)

  -- the key is there
  pub put_has : p k ≡ true → ((x : A) → cmp k x ≡ Equal → p x ≡ true) → (xs : List A) → list_any p (insert_key cmp xs k) ≡ true
  put_has e ties [] = ap (λ b. b || false) e
  put_has e ties (x ∷ xs) = by (cmp k x) refl (put_has e ties xs) where
    by : (o : Ordering) → cmp k x ≡ o → list_any p (insert_key cmp xs k) ≡ true → list_any p (match_ordering o (k ∷ x ∷ xs) (x ∷ xs) (x ∷ insert_key cmp xs k)) ≡ true
    by Less o h = ap (λ b. b || list_any p (x ∷ xs)) e
    by Equal o h = ap (λ b. b || list_any p xs) (ties x o)
    by Greater o h = or_right (p x) _ h

  pub put_only : (xs : List A) → list_any p (insert_key cmp xs k) ≡ true → (p k || list_any p xs) ≡ true
  put_only [] h = h
  put_only (x ∷ xs) h = by (cmp k x) h (put_only xs) where
    later : (p x ≡ true) ⊎ (list_any p (insert_key cmp xs k) ≡ true) → (list_any p (insert_key cmp xs k) ≡ true → (p k || list_any p xs) ≡ true) → (p k || (p x || list_any p xs)) ≡ true
    later (inl e) f = or_right (p k) _ (or_left (p x) _ e)
    later (inr e) f = last (or_cases (p k) (list_any p xs) (f e)) where
      last : (p k ≡ true) ⊎ (list_any p xs ≡ true) → (p k || (p x || list_any p xs)) ≡ true
      last (inl t) = or_left (p k) _ t
      last (inr t) = or_right (p k) _ (or_right (p x) _ t)

    by : (o : Ordering) → list_any p (match_ordering o (k ∷ x ∷ xs) (x ∷ xs) (x ∷ insert_key cmp xs k)) ≡ true → (list_any p (insert_key cmp xs k) ≡ true → (p k || list_any p xs) ≡ true) → (p k || (p x || list_any p xs)) ≡ true
    by Less e f = e
    by Equal e f = or_right (p k) _ e
    by Greater e f = later (or_cases (p x) (list_any p (insert_key cmp xs k)) e) f

  -- what the test is of the key and of what is there, it is with the key put in
  pub any_with : ((x : A) → cmp k x ≡ Equal → p k ≡ true → p x ≡ true) → (xs : List A) → list_any p (insert_key cmp xs k) ≡ (p k || list_any p xs)
  any_with ties xs = both_ways _ _ (put_only xs) (λ h. by (or_cases (p k) (list_any p xs) h)) where
    by : (p k ≡ true) ⊎ (list_any p xs ≡ true) → list_any p (insert_key cmp xs k) ≡ true
    by (inl e) = put_has e (λ x t. ties x t e) xs
    by (inr e) = put_keeps xs e

pub all_put : {A : Type 0} (cmp : A → A → Ordering) (P : A → Type 0) (k : A) → P k → (xs : List A) → AllByRecursion P xs → AllByRecursion P (insert_key cmp xs k)
all_put cmp P k one [] a = (one, tt)
all_put {A} cmp P k one (x ∷ xs) a = by (cmp k x) (all_put cmp P k one xs a.1) where
  by : (o : Ordering) → AllByRecursion P (insert_key cmp xs k) → AllByRecursion P (match_ordering o (k ∷ x ∷ xs) (x ∷ xs) (x ∷ insert_key cmp xs k))
  by Less h = (one, a)
  by Equal h = a
  by Greater h = (a.0, h)

-- a key put into a list in order leaves it in order
pub put_rises : {A : Type 0} (cmp : A → A → Ordering) → IsTotalOrder cmp → (k : A) (xs : List A) → IsStrictlySortedBy cmp xs → IsStrictlySortedBy cmp (insert_key cmp xs k)
unfolding IsStrictlySortedBy
put_rises cmp total k [] o = (tt, tt)
put_rises cmp total k (x ∷ xs) o = by (cmp k x) refl (put_rises cmp total k xs (sorted_tail cmp x xs o)) where
  by : (c : Ordering) → cmp k x ≡ c → IsStrictlySortedBy cmp (insert_key cmp xs k) → IsStrictlySortedBy cmp (match_ordering c (k ∷ x ∷ xs) (x ∷ xs) (x ∷ insert_key cmp xs k))
  by Less c h = ((c, all_then (λ y. cmp x y ≡ Less) (λ y. cmp k y ≡ Less) (λ y e. total.trans k x y c e) xs (sorted_head cmp x xs o)), o)
  by Equal c h = o
  by Greater c h = (all_put cmp (λ y. cmp x y ≡ Less) k (total.antisymm x k ∙ ap ordering_reverse c) xs (sorted_head cmp x xs o), h)

-- a test that distinguishes nothing that q passes is a test of those after the filter
pub any_filtered : {A : Type 0} (q p : A → Bool) (b : Bool) → ((x : A) → q x ≡ true → p x ≡ b) → (xs : List A) → list_any q (filter p xs) ≡ (b && list_any q xs)
any_filtered q p true f [] = refl
any_filtered q p false f [] = refl
any_filtered q p b f (x ∷ xs) = by (p x) refl (q x) refl (any_filtered q p b f xs) where
  by : (d : Bool) → p x ≡ d → (c : Bool) → q x ≡ c → list_any q (filter p xs) ≡ (b && list_any q xs) → list_any q (cond d (x ∷ filter p xs) (filter p xs)) ≡ (b && (c || list_any q xs))
  by true e true k h = ap (λ c. c || list_any q (filter p xs)) k ∙ sym (ap (λ c. c && true) (sym (f x k) ∙ e))
  by true e false k h = ap (λ c. c || list_any q (filter p xs)) k ∙ h
  by false e true k h = let out = sym (f x k) ∙ e in h ∙ ap (λ c. c && list_any q xs) out ∙ sym (ap (λ c. c && true) out)
  by false e false k h = h
