-- Spots, as rows come and go.
use Rattle.std.proofs.Common.{refl, sym, ◌∙◌, ap, subst, ◌≡◌, ◌<◌, ℕ, length-append, take, arith, List, [], ◌∷◌, ◌++◌, map, length, Bool, true, false, not, cond, ◌||◌, true≢false, filter, Option, Some, None, IfSome, MatchOption, Less, is_eq, eqb}
use Rattle.std.specs.List.{list_any, AllByRecursion}
use Rattle.std.specs.List.Sorted.{IsStrictlySortedBy}
use Rattle.std.specs.Map.{keys_of, values_of, lookup}
use Rattle.std.specs.BTreeMap.{is_at}
use Rattle.std.specs.Ordering.{nat_cmp}
use Rattle.std.proofs.lemmas.Bool.{or_parts, or_left, or_right, false_from_ne_true, eq-eqb}
use Rattle.std.proofs.lemmas.List.{same_from_push, take-append-le}
use Rattle.std.proofs.lemmas.List.Elements.{filter-append}
use Rattle.std.proofs.lemmas.List.Folds.{list_any-append}
use Rattle.pres_tree.specs.Paths.{Path, path_cmp, same_path}
use Rattle.pres_tree.proofs.PathOrder.{path_same, path_itself, path_flip, same_by_cmp}
use Rattle.pres_plan.specs.declared.row.PlanRow.{PlanRow}
use Rattle.pres_plan.specs.declared.places.Spot.{Spot}
use Rattle.pres_plan.specs.Places.{Spots, spot_at, Sets}
use Rattle.pres_plan.specs.Plans.{path_of, IsPlan}
use Rattle.pres_plan.specs.Standing.{Entries, numbers_at, numbers_of, before_of, without, Tells, IsTop, AreTops, IsStanding}
use Rattle.pres_plan.proofs.Covered.{sorted_behind}
use Rattle.pres_plan.proofs.Numbers.{filter_all, all_then, all_mapped, same_number, eqb_flip, at, has, has-append, all_have, one_path, numbers_at-append, numbers_at-one, numbers_at-kept}

at_path : (p q : Path) → is_at (path_cmp p) q ≡ same_path p q
at_path p q = sym (same_by_cmp p q)

at_it : (p q : Path) → same_path q p ≡ true → is_at (path_cmp p) q ≡ true
at_it p q h = at_path p q ∙ ap (same_path p) (path_same q p h) ∙ path_itself p

-- ---- a row more

pub added_tells : (p : Path) (n : ℕ) (row : PlanRow) (spot : Spot) (es new : Entries) (places after : Spots) →
    p ≡ path_of row.action → new ≡ es ++ (n, row) ∷ [] → spot.row ≡ n → before_of spot.before ≡ numbers_at p es → Tells places es → Sets p (Some spot) places after → Tells after new
added_tells p n row spot es new places after p_is new_is n_is before tells sets q =
    ap numbers_of (sets q)
    ∙ by (same_path q p) refl
    ∙ sym (ap (numbers_at q) new_is ∙ numbers_at-append q es ((n, row) ∷ []) ∙ ap (λ l. numbers_at q es ++ l) (numbers_at-one q n row ∙ ap (λ y. cond (same_path q y) (n ∷ []) []) (sym p_is)))
  where
    append_nothing : (l : List ℕ) → l ≡ l ++ []
    append_nothing [] = refl
    append_nothing (x ∷ l) = ap (λ m. x ∷ m) (append_nothing l)

    by : (b : Bool) → same_path q p ≡ b → numbers_of (cond (is_at (path_cmp p) q) (Some spot) (spot_at q places)) ≡ numbers_at q es ++ cond (same_path q p) (n ∷ []) []
    by true h =
        ap (λ b. numbers_of (cond b (Some spot) (spot_at q places))) (at_it p q h)
        ∙ (λ i. before i ++ n_is i ∷ [])
        ∙ ap (λ y. numbers_at y es ++ n ∷ []) (sym (path_same q p h))
        ∙ sym (ap (λ b. numbers_at q es ++ cond b (n ∷ []) []) h)
    by false h =
        ap (λ b. numbers_of (cond b (Some spot) (spot_at q places))) (at_path p q ∙ path_flip q p h)
        ∙ tells q ∙ append_nothing (numbers_at q es)
        ∙ sym (ap (λ b. numbers_at q es ++ cond b (n ∷ []) []) h)

-- the tops after the spot at one path changes
pub tops_set : (p : Path) (w : Option Spot) (places after : Spots) → Sets p w places after → (rows : List PlanRow) → IfSome w (λ s. IsTop rows p s.top) → AreTops rows places → AreTops rows after
tops_set p w places after sets rows top tops q = subst (λ (o : Option Spot). IfSome o (λ s. IsTop rows q s.top)) (sym (sets q)) (by (same_path q p) refl) where
  by : (b : Bool) → same_path q p ≡ b → IfSome (cond (is_at (path_cmp p) q) w (spot_at q places)) (λ s. IsTop rows q s.top)
  by true h =
      subst (λ (b : Bool). IfSome (cond b w (spot_at q places)) (λ s. IsTop rows q s.top)) (sym (at_it p q h))
      (subst (λ (y : Path). IfSome w (λ s. IsTop rows y s.top)) (sym (path_same q p h)) top)
  by false h = subst (λ (b : Bool). IfSome (cond b w (spot_at q places)) (λ s. IsTop rows q s.top)) (sym (at_path p q ∙ path_flip q p h)) (tops q)

-- ---- a row less

-- the number stands at the path no more
abbrev pub Forgets : ℕ → Path → Spots → Spots → Type 0
Forgets n p old new = (q : Path) → numbers_of (spot_at q new) ≡ cond (same_path q p) (without n (numbers_of (spot_at q old))) (numbers_of (spot_at q old))

pub forgets : (n : ℕ) (p : Path) (w : Option Spot) (places after : Spots) → Sets p w places after → numbers_of w ≡ without n (numbers_of (spot_at p places)) → Forgets n p places after
forgets n p w places after sets is q = ap numbers_of (sets q) ∙ by (same_path q p) refl where
  by : (b : Bool) → same_path q p ≡ b → numbers_of (cond (is_at (path_cmp p) q) w (spot_at q places)) ≡ cond (same_path q p) (without n (numbers_of (spot_at q places))) (numbers_of (spot_at q places))
  by true h =
      ap (λ b. numbers_of (cond b w (spot_at q places))) (at_it p q h)
      ∙ is ∙ ap (λ y. without n (numbers_of (spot_at y places))) (sym (path_same q p h))
      ∙ sym (ap (λ b. cond b (without n (numbers_of (spot_at q places))) (numbers_of (spot_at q places))) h)
  by false h =
      ap (λ b. numbers_of (cond b w (spot_at q places))) (at_path p q ∙ path_flip q p h)
      ∙ sym (ap (λ b. cond b (without n (numbers_of (spot_at q places))) (numbers_of (spot_at q places))) h)

-- where no spot stands at the path none changes
pub forgets_none : (n : ℕ) (p : Path) (places : Spots) → spot_at p places ≡ None → Forgets n p places places
forgets_none n p places none q = by (same_path q p) refl where
  by : (b : Bool) → same_path q p ≡ b → numbers_of (spot_at q places) ≡ cond b (without n (numbers_of (spot_at q places))) (numbers_of (spot_at q places))
  by true h =
      let gone : spot_at q places ≡ None = ap (λ y. spot_at y places) (path_same q p h) ∙ none in
      ap numbers_of gone ∙ sym (ap (λ o. without n (numbers_of o)) gone)
  by false h = refl

without_absent : (n : ℕ) (ns : List ℕ) → list_any (λ m. eqb m n) ns ≡ false → without n ns ≡ ns
without_absent n [] h = refl
without_absent n (m ∷ ns) h =
    let parts = or_parts (eqb m n) _ h in
    ap (λ b. cond (not b) (m ∷ without n ns) (without n ns)) (eqb_flip n m ∙ parts.0) ∙ ap (λ l. m ∷ l) (without_absent n ns parts.1)

-- the spots tell which rows are left
pub forgot_tells : (n : ℕ) (p : Path) (es new : Entries) (places after : Spots) → IsStrictlySortedBy nat_cmp (keys_of es) → has n p es ≡ true → new ≡ filter (λ e. not (eqb n e.0)) es → Tells places es → Forgets n p places after → Tells after new
forgot_tells n p es new places after sorted stood new_is tells told q =
    told q
    ∙ ap (λ l. cond (same_path q p) (without n l) l) (tells q)
    ∙ by (same_path q p) refl
    ∙ sym (ap (numbers_at q) new_is ∙ numbers_at-kept (λ m. not (eqb n m)) q es)
  where
    by : (b : Bool) → same_path q p ≡ b → cond b (without n (numbers_at q es)) (numbers_at q es) ≡ without n (numbers_at q es)
    by true h = refl
    by false h = sym (without_absent n (numbers_at q es) (false_from_ne_true _ (λ k. true≢false (sym (path_itself p) ∙ ap (λ y. same_path y p) (one_path n p q es sorted stood k) ∙ h))))

-- a row that is found by its number stands at its path
pub looked_has : (n : ℕ) (row : PlanRow) (es : Entries) → lookup (is_at (nat_cmp n)) es ≡ Some row → has n (path_of row.action) es ≡ true
looked_has n row [] h = absurd cc
looked_has n row (e ∷ es) h = by (is_at (nat_cmp n) e.0) refl h (looked_has n row es) where
  p : Path
  p = path_of row.action

  by : (b : Bool) → is_at (nat_cmp n) e.0 ≡ b → cond b (Some e.1) (lookup (is_at (nat_cmp n)) es) ≡ Some row → (lookup (is_at (nat_cmp n)) es ≡ Some row → has n p es ≡ true) → has n p (e ∷ es) ≡ true
  by true t k rest =
      let is : e.1 ≡ row = cc in
      ap (λ b. list_any (λ m. eqb m n) (map (λ (f : ℕ × PlanRow). f.0) (cond b (e ∷ filter (at p) es) (filter (at p) es)))) (ap (λ (r : PlanRow). same_path p (path_of r.action)) is ∙ path_itself p)
      ∙ or_left (eqb e.0 n) _ (eqb_flip e.0 n ∙ sym (same_number n e.0) ∙ t)
  by false t k rest = has-append n p (e ∷ []) es ∙ or_right (has n p (e ∷ [])) _ (rest k)

-- where no row has the number none goes
pub none_taken : (n : ℕ) (es : Entries) → lookup (is_at (nat_cmp n)) es ≡ None → filter (λ e. not (eqb n e.0)) es ≡ es
none_taken n [] h = refl
none_taken n (e ∷ es) h = by (is_at (nat_cmp n) e.0) refl h (none_taken n es) where
  by : (b : Bool) → is_at (nat_cmp n) e.0 ≡ b → cond b (Some e.1) (lookup (is_at (nat_cmp n)) es) ≡ None → (lookup (is_at (nat_cmp n)) es ≡ None → filter (λ e. not (eqb n e.0)) es ≡ es) → filter (λ e. not (eqb n e.0)) (e ∷ es) ≡ e ∷ es
  by true t k rest = absurd cc
  by false t k rest =
      ap (λ b. cond (not b) (e ∷ filter (λ f. not (eqb n f.0)) es) (filter (λ f. not (eqb n f.0)) es)) (sym (same_number n e.0) ∙ t)
      ∙ ap (λ l. e ∷ l) (rest k)

-- the last row goes
pub last_gone : (n : ℕ) (row : PlanRow) (es : Entries) → AllByRecursion (λ k. nat_cmp k n ≡ Less) (keys_of es) → es ≡ filter (λ e. not (eqb n e.0)) (es ++ (n, row) ∷ [])
last_gone n row es low =
    sym (filter-append (λ e. not (eqb n e.0)) es ((n, row) ∷ [])
    ∙ (λ i. filter_all (λ e. not (eqb n e.0)) es (all_mapped (λ (e : ℕ × PlanRow). e.0) (λ k. not (eqb n k) ≡ true) es (all_then (λ k. nat_cmp k n ≡ Less) (λ k. not (eqb n k) ≡ true) (λ k l. ap not (eqb_flip n k ∙ sym (same_number k n) ∙ ap is_eq l)) (keys_of es) low)) i
    ++ cond (not (eq-eqb n n refl i)) ((n, row) ∷ []) [])
    ∙ append_nothing es)
  where
    append_nothing : (l : Entries) → l ++ [] ≡ l
    append_nothing [] = refl
    append_nothing (x ∷ l) = ap (λ m. x ∷ m) (append_nothing l)

pub last_has : (n : ℕ) (row : PlanRow) (es : Entries) → has n (path_of row.action) (es ++ (n, row) ∷ []) ≡ true
last_has n row es = has-append n (path_of row.action) es ((n, row) ∷ []) ∙ or_right (has n (path_of row.action) es) _ (all_have [] ((n, row) ∷ [])).0

-- the spots tell which rows are left without the last one
pub last_forgot : (n : ℕ) (row : PlanRow) (p : Path) (es new : Entries) (places after : Spots) → IsStrictlySortedBy nat_cmp (keys_of es) → es ≡ new ++ (n, row) ∷ [] → p ≡ path_of row.action → Tells places es → Forgets n p places after → Tells after new
last_forgot n row p es new places after sorted is p_is tells told =
    forgot_tells n p es new places after sorted (ap (λ y. has n y es) p_is ∙ ap (has n (path_of row.action)) is ∙ last_has n row new)
    (last_gone n row new (sorted_behind new ((n, row) ∷ []) (subst (λ (l : Entries). IsStrictlySortedBy nat_cmp (keys_of l)) is sorted)).0 ∙ ap (filter (λ e. not (eqb n e.0))) (sym is)) tells told

-- and the first rows are the same
pub first_same : (len : ℕ) (es new : Entries) (e : ℕ × PlanRow) → es ≡ new ++ e ∷ [] → len < length es → take len new ≡ take len es
first_same len es new e is low = sym (take-append-le len new (e ∷ []) (omega (arith, low, ap length is, length-append new (e ∷ [])))) ∙ ap (take len) (sym is)

pub none_gone : (es : Entries) → es ≡ filter (λ e. not (list_any (λ n. eqb n e.0) [])) es
none_gone [] = refl
none_gone (e ∷ es) = ap (λ l. e ∷ l) (none_gone es)

-- one number more goes
pub one_more_gone : (n : ℕ) (ns : List ℕ) (es : Entries) → filter (λ e. not (eqb n e.0)) (filter (λ e. not (list_any (λ m. eqb m e.0) ns)) es) ≡ filter (λ e. not (list_any (λ m. eqb m e.0) (ns ++ n ∷ []))) es
one_more_gone n ns [] = refl
one_more_gone n ns (e ∷ es) = by (list_any (λ m. eqb m e.0) ns) (eqb n e.0) refl (list_any-append (λ m. eqb m e.0) ns (n ∷ [])) (one_more_gone n ns es) where
  F : Entries
  F = filter (λ f. not (list_any (λ m. eqb m f.0) ns)) es

  G : Entries
  G = filter (λ f. not (list_any (λ m. eqb m f.0) (ns ++ n ∷ []))) es

  by : (a b : Bool) → eqb n e.0 ≡ b → list_any (λ m. eqb m e.0) (ns ++ n ∷ []) ≡ (a || (eqb n e.0 || false)) → filter (λ f. not (eqb n f.0)) F ≡ G →
      filter (λ f. not (eqb n f.0)) (cond (not a) (e ∷ F) F) ≡ cond (not (list_any (λ m. eqb m e.0) (ns ++ n ∷ []))) (e ∷ G) G
  by true b t k h = h ∙ sym (ap (λ c. cond (not c) (e ∷ G) G) k)
  by false true t k h =
      ap (λ c. cond (not c) (e ∷ filter (λ f. not (eqb n f.0)) F) (filter (λ f. not (eqb n f.0)) F)) t ∙ h
      ∙ sym (ap (λ c. cond (not c) (e ∷ G) G) (k ∙ ap (λ c. c || false) t))
  by false false t k h =
      ap (λ c. cond (not c) (e ∷ filter (λ f. not (eqb n f.0)) F) (filter (λ f. not (eqb n f.0)) F)) t ∙ ap (λ l. e ∷ l) h
      ∙ sym (ap (λ c. cond (not c) (e ∷ G) G) (k ∙ ap (λ c. c || false) t))

-- the row that was put last is taken off again
pub popped : (r : Option (ℕ × PlanRow)) (es now left : Entries) (e : ℕ × PlanRow) → now ≡ es ++ e ∷ [] → MatchOption r (now ≡ []) (λ p. now ≡ left ++ p ∷ []) → left ≡ es
popped None es now left e is none = absurd (omega (arith, ap length is, ap length none, length-append es (e ∷ [])))
popped (Some p) es now left e is some = (same_from_push left es p e (sym some ∙ is)).0

-- where no rows and no spots are
pub nothing_stands : (rows : Entries) (places : Spots) → rows ≡ [] → places ≡ [] → IsPlan [] → IsStanding rows places
nothing_stands rows places no_rows no_places plan = record {
  plan = subst (λ (es : Entries). IsPlan (values_of es)) (sym no_rows) plan;
  tells = λ q. ap (λ es. numbers_of (lookup (is_at (path_cmp q)) es)) no_places ∙ ap (numbers_at q) (sym no_rows);
  tops = λ q. subst (λ (es : List (Path × Spot)). IfSome (lookup (is_at (path_cmp q)) es) (λ s. IsTop (values_of rows) q s.top)) (sym no_places) tt;
}
