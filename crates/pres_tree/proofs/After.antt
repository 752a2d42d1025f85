-- Writes and the value at a path: those elsewhere leave it, one at the path puts it, and the last one at or above it decides it.
use Rattle.std.proofs.Common.{refl, sym, ◌∙◌, ap, ◌≡◌, List, [], ◌∷◌, ◌++◌, Bool, true, false, not, cond, ◌||◌, ◌&&◌, Some, None, is_some, true≢false, filter, append_assoc, append-nil, length, drop, ◌⊎◌, inl, inr}
use Rattle.std.specs.List.{list_any, last_or}
use Rattle.std.proofs.Math.Seq.{drop-append_seam}
use Rattle.std.specs.Option.{option_and_then}
use Rattle.std.proofs.lemmas.Bool.{and_parts, or_cases, or_left}
use Rattle.pres_tree.specs.Paths.{Path, below, is_prefix, meet}
use Rattle.pres_tree.specs.Rows.{Rows, InOrder, is_null, leaf_at, value_at}
use Rattle.pres_tree.specs.Writes.{Write, write, overwrites, written_at, tree_after, after, standing_rows}
use Rattle.pres_tree.proofs.Found.{IsRest, rest_is, same_rows, leaf_at-value_at}
use Rattle.pres_tree.proofs.Last.{filter-append, last_or-append, last_write_decides, sorted_by-is_sorted}
use Rattle.pres_tree.proofs.Nodes.{in_order-value_at, value_at_root}
use Rattle.pres_tree.proofs.Values.{below-append, above_one, prefix-append}

prefix_rest : (p x : Path) → is_prefix p x ≡ true → (z : Path) × (x ≡ p ++ z)
prefix_rest p x h = elim (below p x) as (λ o. IsRest p x o → is_some o ≡ true → (z : Path) × (x ≡ p ++ z)) [
  | None ↦ λ e k. absurd (true≢false (sym k))
  | Some z ↦ λ e k. (z, e)
] (rest_is p x) h

in_order : {A : Type 0} (ws : List (Write A)) → InOrder (tree_after ws)
in_order ws = sorted_by-is_sorted (standing_rows ws)

-- trees with the same leaves below p have the same value at p
pub value_same : {A : Type 0} (p : Path) (v w : Rows A) → InOrder v → InOrder w → ((x : Path) → leaf_at v (p ++ x) ≡ leaf_at w (p ++ x)) → value_at p v ≡ value_at p w
value_same p v w h k same =
    same_rows (value_at p v) (value_at p w) (in_order-value_at p v h) (in_order-value_at p w k)
    (λ x. leaf_at-value_at p v x ∙ same x ∙ sym (leaf_at-value_at p w x))

or_right : (a b : Bool) → b ≡ true → (a || b) ≡ true
or_right true b h = refl
or_right false b h = h

-- what overwrites a place at or below p meets p
overwriter_meets : {A : Type 0} (p x : Path) (w : Write A) → overwrites w (p ++ x) ≡ true → meet w.path p ≡ true
overwriter_meets p x w h = by_side (or_cases (is_prefix w.path (p ++ x)) _ h) where
  met : (is_prefix w.path p ≡ true) ⊎ (is_prefix p w.path ≡ true) → meet w.path p ≡ true
  met (inl k) = or_left (is_prefix w.path p) _ k
  met (inr k) = or_right (is_prefix w.path p) _ k

  by_side : (is_prefix w.path (p ++ x) ≡ true) ⊎ ((is_prefix (p ++ x) w.path && not (is_null w.value)) ≡ true) → meet w.path p ≡ true
  by_side (inl k) = met (above_one w.path p (p ++ x) k (prefix-append p x))
  by_side (inr k) =
      let z = prefix_rest (p ++ x) w.path (and_parts (is_prefix (p ++ x) w.path) _ k).0 in
      or_right (is_prefix w.path p) _ (ap (is_prefix p) (z.1 ∙ append_assoc p x z.0) ∙ prefix-append p (x ++ z.0))

filter_none : {A : Type 0} (f g : A → Bool) (xs : List A) → ((x : A) → f x ≡ true → g x ≡ true) → list_any g xs ≡ false → filter f xs ≡ []
filter_none f g [] h k = refl
filter_none {A} f g (x ∷ xs) h k = by_head (f x) (g x) (h x) k (filter_none f g xs h) where
  by_head : (a b : Bool) → (a ≡ true → b ≡ true) → (b || list_any g xs) ≡ false → (list_any g xs ≡ false → filter f xs ≡ []) → cond a (x ∷ filter f xs) (filter f xs) ≡ []
  by_head a true i n rest = absurd (true≢false n)
  by_head true false i n rest = absurd (true≢false (sym (i refl)))
  by_head false false i n rest = rest n

-- writes that do not meet p leave the value at p
pub value_kept : {A : Type 0} (p : Path) (us ws : List (Write A)) → list_any (λ w. meet w.path p) ws ≡ false → value_at p (tree_after (us ++ ws)) ≡ value_at p (tree_after us)
value_kept p us ws h =
    value_same p (tree_after (us ++ ws)) (tree_after us) (in_order (us ++ ws)) (in_order us)
    (λ x. last_write_decides (us ++ ws) (p ++ x)
    ∙ ap (λ l. option_and_then (λ w. written_at w (p ++ x)) (last_or None l))
    (filter-append (λ w. overwrites w (p ++ x)) us ws ∙ ap (λ l. filter (λ w. overwrites w (p ++ x)) us ++ l) (filter_none (λ w. overwrites w (p ++ x)) (λ w. meet w.path p) ws (overwriter_meets p x) h) ∙ append-nil _)
    ∙ sym (last_write_decides us (p ++ x)))

-- a last write above p puts there what its value holds below its own path
value_below : {A : Type 0} (q z : Path) (us : List (Write A)) (v : Rows A) → InOrder v → value_at (q ++ z) (tree_after (us ++ write q v ∷ [])) ≡ value_at z v
value_below q z us v h =
    same_rows (value_at (q ++ z) (tree_after (us ++ write q v ∷ []))) (value_at z v) (in_order-value_at (q ++ z) (tree_after (us ++ write q v ∷ [])) (in_order (us ++ write q v ∷ []))) (in_order-value_at z v h)
    (λ x. leaf_at-value_at (q ++ z) (tree_after (us ++ write q v ∷ [])) x
    ∙ ap (leaf_at (tree_after (us ++ write q v ∷ []))) (append_assoc q z x)
    ∙ last_write_decides (us ++ write q v ∷ []) (q ++ (z ++ x))
    ∙ ap (λ l. option_and_then (λ w. written_at w (q ++ (z ++ x))) (last_or None l)) (filter-append (λ w. overwrites w (q ++ (z ++ x))) us (write q v ∷ []))
    ∙ ap (λ b. option_and_then (λ w. written_at w (q ++ (z ++ x))) (last_or None (filter (λ w. overwrites w (q ++ (z ++ x))) us ++ cond (b || (is_prefix (q ++ (z ++ x)) q && not (is_null v))) (write q v ∷ []) []))) (prefix-append q (z ++ x))
    ∙ ap (option_and_then (λ w. written_at w (q ++ (z ++ x)))) (last_or-append None (filter (λ w. overwrites w (q ++ (z ++ x))) us) (write q v ∷ []))
    ∙ ap (option_and_then (leaf_at v)) (below-append q (z ++ x))
    ∙ sym (leaf_at-value_at z v x))

pub value_under : {A : Type 0} (p q : Path) (us : List (Write A)) (v : Rows A) → is_prefix q p ≡ true → InOrder v
    → value_at p (tree_after (us ++ write q v ∷ [])) ≡ value_at (drop (length q) p) v
value_under p q us v above h =
    let z = prefix_rest q p above in
    ap (λ r. value_at r (tree_after (us ++ write q v ∷ []))) z.1 ∙ value_below q z.0 us v h
    ∙ ap (λ r. value_at r v) (sym (ap (drop (length q)) z.1 ∙ drop-append_seam q z.0))

-- the last write puts its value
pub value_put : {A : Type 0} (p : Path) (us : List (Write A)) (v : Rows A) → InOrder v → value_at p (tree_after (us ++ write p v ∷ [])) ≡ v
value_put p us v h = ap (λ r. value_at r (tree_after (us ++ write p v ∷ []))) (sym (append-nil p)) ∙ value_below p [] us v h ∙ value_at_root v

-- a tree written at the root is that tree
pub value_alone : {A : Type 0} (p : Path) (v : Rows A) → InOrder v → value_at p (tree_after (write [] v ∷ [])) ≡ value_at p v
value_alone p v h = value_same p (tree_after (write [] v ∷ [])) v (in_order (write [] v ∷ [])) h (λ x. last_write_decides (write [] v ∷ []) (p ++ x))

-- what stands at p after writes depends only on what stood at p before them
pub after_same : {A : Type 0} (p : Path) (s t : Rows A) (ws : List (Write A)) → value_at p s ≡ value_at p t → value_at p (after s ws) ≡ value_at p (after t ws)
after_same {A} p s t ws e =
    value_same p (after s ws) (after t ws) (in_order (write [] s ∷ ws)) (in_order (write [] t ∷ ws))
    (λ x. last_write_decides (write [] s ∷ ws) (p ++ x)
    ∙ by_last x (filter (λ w. overwrites w (p ++ x)) ws) (sym (leaf_at-value_at p s x) ∙ ap (λ v. leaf_at v x) e ∙ leaf_at-value_at p t x)
    ∙ sym (last_write_decides (write [] t ∷ ws) (p ++ x)))
  where
    by_last : (x : Path) (l : List (Write A)) → leaf_at s (p ++ x) ≡ leaf_at t (p ++ x)
        → option_and_then (λ w. written_at w (p ++ x)) (last_or (Some (write [] s)) l) ≡ option_and_then (λ w. written_at w (p ++ x)) (last_or (Some (write [] t)) l)
    by_last x [] h = h
    by_last x (w ∷ l) h = refl
