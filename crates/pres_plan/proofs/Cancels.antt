-- A cancelled place that no later action meets holds after the end what it held before.
use Rattle.std.proofs.Common.{refl, sym, ◌∙◌, ap, ◌≡◌, ℕ, List, [], ◌∷◌, ◌++◌, map, Bool, true, false, not, cond, ◌||◌, ◌&&◌, ◌⊎◌, inl, inr, true≢false, filter, append_assoc}
use Rattle.std.specs.List.{list_any, AllByRecursion}
use Rattle.std.proofs.lemmas.Bool.{and_parts, and_from, or_parts, or_cases, or_left, or_right, false_from_ne_true, not-true}
use Rattle.std.proofs.lemmas.List.{map-append}
use Rattle.std.proofs.lemmas.List.Folds.{list_any-append}
use Rattle.pres_tree.specs.Paths.{Path, is_prefix, meet}
use Rattle.pres_tree.specs.Rows.{Rows, IsValue, InOrder, value_at}
use Rattle.pres_tree.specs.Writes.{Write, write, tree_after}
use Rattle.pres_tree.specs.declared.scalar.Scalar.{Scalar}
use Rattle.pres_tree.proofs.Nodes.{in_order-value_at}
use Rattle.pres_write.specs.Basics.{write_of, applied}
use Rattle.pres_write.specs.declared.basic.Basic.{Basic}
use Rattle.pres_plan.specs.declared.row.Action.TheVariants.{Keep}
use Rattle.pres_plan.specs.declared.row.PlanRow.{PlanRow}
use Rattle.pres_plan.specs.Plans.{path_of, is_put, covers, is_left, lasting, puts_above, matters, plan_of, due, due_after, due_write, CancelKeeps}
use Rattle.pres_plan.proofs.Due.{due_after-append, path-due, keep-due}
use Rattle.pres_plan.proofs.Left.{any_implies, any_filter, any_lasting, false_of, filter-append, lasting-append, prefix_trans}
use Rattle.pres_tree.proofs.After.{value_kept, value_put, value_alone}

-- ---- the writes of rows

none_due : (tree : Rows Scalar) (b : List Basic) (moment : ℕ) (p : Path) (rows : List PlanRow) → list_any (λ r. meet (path_of r.action) p) rows ≡ false → list_any (λ w. meet w.path p) (map write_of (due_after tree b moment rows)) ≡ false
none_due tree b moment p [] h = refl
none_due tree b moment p (row ∷ rows) h =
    let parts = or_parts (meet (path_of row.action) p) _ h in
    let made = due_write tree b moment row.action in
    ap (λ c. c || list_any (λ w. meet w.path p) (map write_of (due_after tree (b ++ made ∷ []) moment rows))) (ap (λ x. meet x p) (path-due tree b moment row.action) ∙ parts.0)
    ∙ none_due tree (b ++ made ∷ []) moment p rows parts.1

-- ---- lists

any_filtered : {A : Type 0} (f m : A → Bool) (xs : List A) → list_any f (filter m xs) ≡ true → list_any (λ x. m x && f x) xs ≡ true
any_filtered f m [] = λ e. e
any_filtered {A} f m (x ∷ xs) = by_head (m x) (any_filtered f m xs) where
  by_head : (b : Bool) → (list_any f (filter m xs) ≡ true → list_any (λ x. m x && f x) xs ≡ true) → list_any f (cond b (x ∷ filter m xs) (filter m xs)) ≡ true → ((b && f x) || list_any (λ x. m x && f x) xs) ≡ true
  by_head true g e = from (or_cases (f x) _ e) where
    from : (f x ≡ true) ⊎ (list_any f (filter m xs) ≡ true) → (f x || list_any (λ x. m x && f x) xs) ≡ true
    from (inl h) = or_left (f x) _ h
    from (inr h) = or_right (f x) _ (g h)
  by_head false g e = g e

pub passes : {A : Type 0} (p : A → Bool) (xs : List A) → AllByRecursion (λ x. p x ≡ true) (filter p xs)
passes p [] = tt
passes p (x ∷ xs) = by_head (p x) refl (passes p xs) where
  by_head : (b : Bool) → p x ≡ b → AllByRecursion (λ y. p y ≡ true) (filter p xs) → AllByRecursion (λ y. p y ≡ true) (cond b (x ∷ filter p xs) (filter p xs))
  by_head true e h = (e, h)
  by_head false e h = h

pub any_either : {A : Type 0} (P : A → Type 0) (f g : A → Bool) (b : Bool) (xs : List A) → AllByRecursion P xs → ((x : A) → P x → f x ≡ true → (g x || b) ≡ true) → list_any f xs ≡ true → (list_any g xs || b) ≡ true
any_either P f g b [] a h e = absurd (true≢false (sym e))
any_either {A} P f g b (x ∷ xs) a h e = from (or_cases (f x) _ e) (any_either P f g b xs a.1 h) where
  here : (c d : Bool) → (c || b) ≡ true → ((c || d) || b) ≡ true
  here true d k = refl
  here false d k = or_right d b k

  there : (c d : Bool) → (d || b) ≡ true → ((c || d) || b) ≡ true
  there true d k = refl
  there false d k = k

  from : (f x ≡ true) ⊎ (list_any f xs ≡ true) → (list_any f xs ≡ true → (list_any g xs || b) ≡ true) → ((g x || list_any g xs) || b) ≡ true
  from (inl k) r = here (g x) _ (h x a.0 k)
  from (inr k) r = there (g x) _ (r k)

-- ---- rows near a cancelled place

-- a put above a place that stands above p is above p
pub lift : (x p : Path) (b : PlanRow) → is_prefix x p ≡ true → puts_above x b ≡ true → puts_above p b ≡ true
lift x p b up e =
    let parts = and_parts (is_put b.action) _ e in
    let above = and_parts (is_prefix (path_of b.action) x) _ parts.1 in
    and_from _ _ parts.0 (and_from _ _ (prefix_trans (path_of b.action) x p above.0 up)
    (ap not (false_from_ne_true (is_prefix p (path_of b.action)) (λ k. true≢false (sym (prefix_trans x p (path_of b.action) up k) ∙ not-true _ above.1)))))

-- a row of a plan that meets the place and is not below it has a put above the place
reaches : (left : List PlanRow) (p : Path) (a : PlanRow) → is_prefix p (path_of a.action) ≡ false → matters left a ≡ true → meet (path_of a.action) p ≡ true → (puts_above p a || list_any (puts_above p) left) ≡ true
reaches left p a apart m h = by_put (or_cases (is_put a.action) _ m) where
  above : is_prefix (path_of a.action) p ≡ true
  above = by_side (or_cases (is_prefix (path_of a.action) p) _ h) where
    by_side : (is_prefix (path_of a.action) p ≡ true) ⊎ (is_prefix p (path_of a.action) ≡ true) → is_prefix (path_of a.action) p ≡ true
    by_side (inl k) = k
    by_side (inr k) = absurd (true≢false (sym k ∙ apart))

  by_put : (is_put a.action ≡ true) ⊎ (list_any (puts_above (path_of a.action)) left ≡ true) → (puts_above p a || list_any (puts_above p) left) ≡ true
  by_put (inl k) = or_left (puts_above p a) _ (and_from _ _ k (and_from _ _ above (ap not apart)))
  by_put (inr k) = or_right (puts_above p a) _ (any_implies (puts_above (path_of a.action)) (puts_above p) left (λ b e. lift (path_of a.action) p b above e) k)

pub cancel_keeps : (tree : Rows Scalar) (moment q : ℕ) (p : Path) (before later : List PlanRow) → CancelKeeps tree moment before q p later
cancel_keeps tree moment q p before later = λ value far. ap (λ l. value_at p (applied tree (due tree moment (plan_of l)))) (append_assoc before (c ∷ []) later) ∙ kept value far where
  c : PlanRow
  c = record { q = q; action = Keep p }

  left : List PlanRow
  left = lasting (before ++ c ∷ later)

  early : List PlanRow
  early = filter (is_left (c ∷ later)) (lasting before)

  near : PlanRow → Bool
  near r = meet (path_of r.action) p

  W : List Basic → List PlanRow → List (Write Scalar)
  W b rows = map write_of (due_after tree b moment rows)

  W-append : (xs ys : List PlanRow) → W [] (xs ++ ys) ≡ W [] xs ++ W (due_after tree [] moment xs) ys
  W-append xs ys = ap (map write_of) (due_after-append tree [] moment xs ys) ∙ map-append write_of (due_after tree [] moment xs) (due_after tree (due_after tree [] moment xs) moment ys)

  far_in : (m : PlanRow → Bool) (xs : List PlanRow) → list_any near xs ≡ false → list_any near (filter m xs) ≡ false
  far_in m xs far = false_of _ _ (any_filter near m xs) far

  left_is : list_any near later ≡ false → left ≡ early ++ c ∷ lasting later
  left_is far =
      lasting-append before (c ∷ later)
      ∙ ap (λ b. early ++ cond (not b) (c ∷ lasting later) (lasting later))
      (false_of _ _ (any_implies (λ l. covers l c) near later (λ a k. or_left (is_prefix (path_of a.action) p) _ k)) far)

  by_put : (M : PlanRow → Bool) → InOrder tree → list_any near (lasting later) ≡ false → (M c ≡ false → list_any near (filter M early) ≡ false) →
      (b : Bool) → M c ≡ b → value_at p (tree_after (write [] tree ∷ W [] (filter M early ++ cond b (c ∷ filter M (lasting later)) (filter M (lasting later))))) ≡ value_at p tree
  by_put M order far clear true m =
      let first = filter M early in
      let rest = filter M (lasting later) in
      let done = due_after tree [] moment first in
      let keep = due_write tree done moment (Keep p) in
      ap (λ l. value_at p (tree_after (write [] tree ∷ l))) (W-append first (c ∷ rest))
      ∙ ap (λ l. value_at p (tree_after l)) (sym (append_assoc (write [] tree ∷ W [] first) (write_of keep ∷ []) (W (done ++ keep ∷ []) rest)))
      ∙ value_kept p ((write [] tree ∷ W [] first) ++ write_of keep ∷ []) (W (done ++ keep ∷ []) rest) (none_due tree (done ++ keep ∷ []) moment p rest (far_in M (lasting later) far))
      ∙ ap (λ w. value_at p (tree_after ((write [] tree ∷ W [] first) ++ w ∷ []))) (keep-due tree done moment p)
      ∙ value_put p (write [] tree ∷ W [] first) (value_at p tree) (in_order-value_at p tree order)
  by_put M order far clear false m =
      value_kept p (write [] tree ∷ []) (W [] (filter M early ++ filter M (lasting later))) (none_due tree [] moment p (filter M early ++ filter M (lasting later))
      (list_any-append near (filter M early) (filter M (lasting later)) ∙ ap (λ b. b || list_any near (filter M (lasting later))) (clear m) ∙ far_in M (lasting later) far))
      ∙ value_alone p tree order

  clear : left ≡ early ++ c ∷ lasting later → matters left c ≡ false → list_any near (filter (matters left) early) ≡ false
  clear is m = false_from_ne_true _ (λ e. true≢false (sym (found e) ∙ m)) where
    in_left : (b : Bool) → list_any (puts_above p) early || b ≡ true → (b ≡ true → list_any (puts_above p) left ≡ true) → list_any (puts_above p) left ≡ true
    in_left b k f = from (or_cases (list_any (puts_above p) early) b k) where
      from : (list_any (puts_above p) early ≡ true) ⊎ (b ≡ true) → list_any (puts_above p) left ≡ true
      from (inl h) = ap (list_any (puts_above p)) is ∙ list_any-append (puts_above p) early (c ∷ lasting later) ∙ or_left _ _ h
      from (inr h) = f h

    found : list_any near (filter (matters left) early) ≡ true → list_any (puts_above p) left ≡ true
    found e =
        in_left (list_any (puts_above p) left)
        (any_either (λ a. is_left (c ∷ later) a ≡ true) (λ a. matters left a && near a) (puts_above p) (list_any (puts_above p) left) early (passes (is_left (c ∷ later)) (lasting before))
        (λ a u k. let parts = and_parts (matters left a) _ k in reaches left p a (or_parts (is_prefix p (path_of a.action)) _ (not-true _ u)).0 parts.0 parts.1)
        (any_filtered near (matters left) early e))
        (λ h. h)

  kept : IsValue tree → list_any near later ≡ false → value_at p (applied tree (due tree moment (plan_of (before ++ c ∷ later)))) ≡ value_at p tree
  kept value far =
      ap (λ l. value_at p (tree_after (write [] tree ∷ W [] (filter (matters left) l)))) (left_is far)
      ∙ ap (λ l. value_at p (tree_after (write [] tree ∷ W [] l))) (filter-append (matters left) early (c ∷ lasting later))
      ∙ by_put (matters left) value.in_order (false_of _ _ (any_lasting near later) far) (clear (left_is far)) (matters left c) refl
