-- Two writes of which no path is at or above the other leave the same in either order.
use Rattle.std.proofs.Common.{◌≡◌, [], ◌∷◌, Bool, true, false, true≢false, cond, not, ◌&&◌, ◌||◌, Option, Some, None, is_some, inl, inr, refl, sym, ap, ◌∙◌}
use Rattle.pres_tree.specs.Paths.{Path, below, is_prefix, meet}
use Rattle.pres_tree.specs.Rows.{Rows, is_null, leaf_at}
use Rattle.pres_tree.specs.Writes.{write}
use Rattle.pres_tree.proofs.Found.{put_at, set_at, leaf_at-set_at, same_rows, in_order-after}
use Rattle.pres_tree.proofs.Values.{above_one, cons_prefix, under}

prefix_trans : (p x q : Path) → is_prefix p x ≡ true → is_prefix x q ≡ true → is_prefix p q ≡ true
prefix_trans [] x q h g = refl
prefix_trans (k ∷ p) [] q h g = absurd (true≢false (sym h))
prefix_trans (k ∷ p) (l ∷ x) [] h g = absurd (true≢false (sym g))
prefix_trans (k ∷ p) (l ∷ x) (m ∷ q) h g =
    let one = cons_prefix k l p x h in
    let two = cons_prefix l m x q g in
    under k m p q (one.0 ∙ two.0) (prefix_trans p x q one.1 two.1)

neither : (a b : Bool) → (a || b) ≡ false → (a ≡ false) × (b ≡ false)
neither true b h = absurd cc
neither false b h = (refl, h)

-- a place below p is neither below q nor above it
record Away (p q x : Path) : Type 0 where
  pub under_q : below q x ≡ None
  pub over_q : is_prefix x q ≡ false

none_of : {A : Type 0} (o : Option A) → is_some o ≡ false → o ≡ None
none_of None h = refl
none_of (Some a) h = absurd cc

not_true : (b : Bool) → (b ≡ true → ⊥) → b ≡ false
not_true true h = absurd (h refl)
not_true false h = refl

away : (p q x : Path) → meet p q ≡ false → is_prefix p x ≡ true → Away p q x
away p q x apart h =
    let each = neither (is_prefix p q) (is_prefix q p) apart in
    record {
      under_q = none_of (below q x) (not_true (is_prefix q x) (λ g. elim (above_one p q x h g) as (λ o. ⊥) [
        | inl a ↦ true≢false (sym a ∙ each.0)
        | inr b ↦ true≢false (sym b ∙ each.1)
      ]));
      over_q = not_true (is_prefix x q) (λ g. true≢false (sym (prefix_trans p x q h g) ∙ each.0));
    }

either_none : {A : Type 0} (a b : Bool) (o : Option A) → cond a None (cond b None o) ≡ cond b None (cond a None o)
either_none true true o = refl
either_none true false o = refl
either_none false true o = refl
either_none false false o = refl

-- what stands at x after both
both_at : {A : Type 0} (p q : Path) (v w t : Rows A) (x : Path) → leaf_at (set_at p v (set_at q w t)) x ≡ put_at (below p x) v (cond (is_prefix x p && not (is_null v)) None (put_at (below q x) w (cond (is_prefix x q && not (is_null w)) None (leaf_at t x))))
both_at p q v w t x = leaf_at-set_at p v (set_at q w t) x ∙ ap (λ o. put_at (below p x) v (cond (is_prefix x p && not (is_null v)) None o)) (leaf_at-set_at q w t x)

-- where x is at p or below, the other write plays no part
first_at : {A : Type 0} (p q : Path) (v w t : Rows A) (x y : Path) → below p x ≡ Some y → Away p q x
    → leaf_at (set_at p v (set_at q w t)) x ≡ leaf_at (set_at q w (set_at p v t)) x
first_at p q v w t x y e far =
    both_at p q v w t x
    ∙ ap (λ o. put_at o v (cond (is_prefix x p && not (is_null v)) None (put_at (below q x) w (cond (is_prefix x q && not (is_null w)) None (leaf_at t x))))) e
    ∙ sym (both_at q p w v t x
    ∙ (λ i. put_at (far.under_q i) w (cond (far.over_q i && not (is_null w)) None (put_at (e i) v (cond (is_prefix x p && not (is_null v)) None (leaf_at t x))))))

pub swap_writes : {A : Type 0} (p q : Path) (v w t : Rows A) → meet p q ≡ false → set_at p v (set_at q w t) ≡ set_at q w (set_at p v t)
swap_writes p q v w t apart = same_rows (set_at p v (set_at q w t)) (set_at q w (set_at p v t)) (in_order-after (set_at q w t) (write p v ∷ [])) (in_order-after (set_at p v t) (write q w ∷ [])) (λ x.
    elim (below p x) as (λ o. below p x ≡ o → leaf_at (set_at p v (set_at q w t)) x ≡ leaf_at (set_at q w (set_at p v t)) x) [
      | Some y ↦ λ e. first_at p q v w t x y e (away p q x apart (ap is_some e))
      | None ↦ λ e. elim (below q x) as (λ o. below q x ≡ o → leaf_at (set_at p v (set_at q w t)) x ≡ leaf_at (set_at q w (set_at p v t)) x) [
        | Some z ↦ λ f. sym (first_at q p w v t x z f (away q p x (other_way p q apart) (ap is_some f)))
        | None ↦ λ f.
            both_at p q v w t x
            ∙ (λ i. put_at (e i) v (cond (is_prefix x p && not (is_null v)) None (put_at (f i) w (cond (is_prefix x q && not (is_null w)) None (leaf_at t x)))))
            ∙ either_none (is_prefix x p && not (is_null v)) (is_prefix x q && not (is_null w)) (leaf_at t x)
            ∙ sym (both_at q p w v t x
            ∙ (λ i. put_at (f i) w (cond (is_prefix x q && not (is_null w)) None (put_at (e i) v (cond (is_prefix x p && not (is_null v)) None (leaf_at t x))))))
      ] refl
    ] refl)
  where
    other_way : (p q : Path) → meet p q ≡ false → meet q p ≡ false
    other_way p q h = let each = neither (is_prefix p q) (is_prefix q p) h in λ i. each.1 i || each.0 i
