-- To add actions to a plan is to plan all actions.
use Rattle.std.proofs.Common.{refl, sym, ◌∙◌, ap, ◌≡◌, List, [], ◌∷◌, ◌++◌, append-nil, Bool, true, false, cond, ◌||◌, true≢false, filter, ◌⊎◌, inl, inr}
use Rattle.std.specs.List.{list_any}
use Rattle.std.proofs.lemmas.Bool.{and_parts, or_cases, or_left, both_ways, not-true}
use Rattle.std.proofs.lemmas.List.Folds.{list_any-append}
use Rattle.pres_tree.specs.Paths.{Path}
use Rattle.pres_plan.specs.declared.row.PlanRow.{PlanRow}
use Rattle.pres_plan.specs.Plans.{path_of, is_put, covers, is_left, lasting, puts_above, matters, plan_of, PlanGrows}
use Rattle.pres_plan.proofs.Left.{or_map, any_implies, any_filter, any_lasting, above_covers, filter-append, filter_same, lasting-append, lasting-plan, planned}

-- a filter that passes all that matter to the others may be left out
filter_out : {A : Type 0} (m n k : A → Bool) (xs : List A) → ((a : A) → n a ≡ true → m a ≡ true → k a ≡ true) → filter m (filter n (filter k xs)) ≡ filter m (filter n xs)
filter_out m n k [] h = refl
filter_out {A} m n k (x ∷ xs) h = by_head (k x) refl (filter_out m n k xs h) where
  kept : List A
  kept = filter n (filter k xs)

  all : List A
  all = filter n xs

  with_it : (b : Bool) → filter m kept ≡ filter m all → filter m (cond b (x ∷ kept) kept) ≡ filter m (cond b (x ∷ all) all)
  with_it true r = ap (λ l. cond (m x) (x ∷ l) l) r
  with_it false r = r

  without : (b c : Bool) → n x ≡ b → m x ≡ c → k x ≡ false → filter m kept ≡ filter m all → filter m kept ≡ filter m (cond b (x ∷ all) all)
  without true true e g i r = absurd (true≢false (sym (h x e g) ∙ i))
  without true false e g i r = r ∙ sym (ap (λ c. cond c (x ∷ filter m all) (filter m all)) g)
  without false c e g i r = r

  by_head : (a : Bool) → k x ≡ a → filter m kept ≡ filter m all → filter m (filter n (cond a (x ∷ filter k xs) (filter k xs))) ≡ filter m (cond (n x) (x ∷ all) all)
  by_head true e r = with_it (n x) r
  by_head false e r = without (n x) (m x) refl refl e r

-- the rows that stand, with those of the old list that matter, or with all of them
abbrev all_of : List PlanRow → List PlanRow → List PlanRow
all_of old new = filter (is_left new) old ++ lasting new

any_out : {A : Type 0} (f n k : A → Bool) (xs : List A) → ((a : A) → f a ≡ true → k a ≡ true) → list_any f (filter n (filter k xs)) ≡ list_any f (filter n xs)
any_out f n k [] h = refl
any_out {A} f n k (x ∷ xs) h = by_head (k x) (f x) refl (h x) (any_out f n k xs h) where
  kept : List A
  kept = filter n (filter k xs)

  all : List A
  all = filter n xs

  with_it : (b : Bool) → list_any f kept ≡ list_any f all → list_any f (cond b (x ∷ kept) kept) ≡ list_any f (cond b (x ∷ all) all)
  with_it true r = ap (λ b. f x || b) r
  with_it false r = r

  without : (b : Bool) → f x ≡ false → list_any f kept ≡ list_any f all → list_any f kept ≡ list_any f (cond b (x ∷ all) all)
  without true e r = r ∙ sym (ap (λ b. b || list_any f all) e)
  without false e r = r

  by_head : (a b : Bool) → f x ≡ b → (b ≡ true → a ≡ true) → list_any f kept ≡ list_any f all → list_any f (filter n (cond a (x ∷ filter k xs) (filter k xs))) ≡ list_any f (cond (n x) (x ∷ all) all)
  by_head true b e i r = with_it (n x) r
  by_head false true e i r = absurd (true≢false (sym (i refl)))
  by_head false false e i r = without (n x) e r

any_left : (old new : List PlanRow) (a : PlanRow) → list_any (puts_above (path_of a.action)) (filter (is_left new) (filter (matters old) old)) ≡ list_any (puts_above (path_of a.action)) (filter (is_left new) old)
any_left old new a = any_out (puts_above (path_of a.action)) (is_left new) (matters old) old (λ b e. or_left (is_put b.action) _ (and_parts (is_put b.action) _ e).0)

puts_same : (old new : List PlanRow) (a : PlanRow) → list_any (puts_above (path_of a.action)) (all_of (filter (matters old) old) new) ≡ list_any (puts_above (path_of a.action)) (all_of old new)
puts_same old new a =
    list_any-append (puts_above (path_of a.action)) (filter (is_left new) (filter (matters old) old)) (lasting new)
    ∙ ap (λ b. b || list_any (puts_above (path_of a.action)) (lasting new)) (any_left old new a)
    ∙ sym (list_any-append (puts_above (path_of a.action)) (filter (is_left new) old) (lasting new))

-- what matters among all and is left mattered among the old
mattered : (old new : List PlanRow) (a : PlanRow) → is_left new a ≡ true → matters (all_of old new) a ≡ true → matters old a ≡ true
mattered old new a left = or_map (is_put a.action) (list_any (puts_above p) (all_of old new)) (is_put a.action) (list_any (puts_above p) old) (λ e. e) above where
  p : Path
  p = path_of a.action

  above : list_any (puts_above p) (all_of old new) ≡ true → list_any (puts_above p) old ≡ true
  above e = from (or_cases (list_any (puts_above p) (filter (is_left new) old)) _ (sym (list_any-append (puts_above p) (filter (is_left new) old) (lasting new)) ∙ e)) where
    from : (list_any (puts_above p) (filter (is_left new) old) ≡ true) ⊎ (list_any (puts_above p) (lasting new) ≡ true) → list_any (puts_above p) old ≡ true
    from (inl h) = any_filter (puts_above p) (is_left new) old h
    from (inr h) =
        absurd (both_ways (list_any (λ l. covers l a) new) (not-true _ left)
        (any_implies (puts_above p) (λ l. covers l a) new (above_covers p) (any_lasting (puts_above p) new h)))

same_plan : (old new : List PlanRow) → planned (all_of (planned old) new) ≡ planned (all_of old new)
same_plan old new =
    filter_same (matters (all_of (planned old) new)) (matters (all_of old new)) (all_of (planned old) new) (λ a. ap (λ b. is_put a.action || b) (puts_same old new a))
    ∙ filter-append (matters (all_of old new)) (filter (is_left new) (planned old)) (lasting new)
    ∙ ap (λ l. l ++ filter (matters (all_of old new)) (lasting new)) (filter_out (matters (all_of old new)) (is_left new) (matters old) old (mattered old new))
    ∙ sym (filter-append (matters (all_of old new)) (filter (is_left new) old) (lasting new))

pub plan_grows : (old new : List PlanRow) → PlanGrows old new
plan_grows old new =
    ap planned (lasting-append (plan_of old) new ∙ ap (λ l. filter (is_left new) l ++ lasting new) (lasting-plan old))
    ∙ same_plan (lasting old) new
    ∙ sym (ap planned (lasting-append old new))

-- the rows of a plan are a plan
pub plan_of-plan : (xs : List PlanRow) → plan_of (plan_of xs) ≡ plan_of xs
plan_of-plan xs = ap plan_of (sym (append-nil (plan_of xs))) ∙ plan_grows xs [] ∙ ap plan_of (append-nil xs)
