-- What stands at a path after writes of which none is at it or below it.
use Rattle.std.proofs.Common.{refl, sym, ◌∙◌, ap, ◌≡◌, ◌≤◌, arith, List, [], ◌∷◌, ◌++◌, map, length, length-append, drop, Bool, true, false, true≢false, ◌||◌}
use Rattle.std.specs.List.{list_any}
use Rattle.std.proofs.lemmas.Bool.{or_parts}
use Rattle.std.proofs.lemmas.List.{append-nil, map-append, nil_from_length}
use Rattle.std.proofs.lemmas.List.Folds.{list_any-append}
use Rattle.pres_tree.specs.declared.scalar.Scalar.{Scalar}
use Rattle.pres_tree.specs.Paths.{Path, is_prefix}
use Rattle.pres_tree.specs.Rows.{Rows, InOrder, rows_in, value_at}
use Rattle.pres_tree.specs.Writes.{write, tree_after}
use Rattle.pres_tree.proofs.After.{value_kept, value_under}
use Rattle.pres_tree.proofs.Values.{prefix-append}
use Rattle.pres_write.specs.declared.basic.Basic.{Basic}
use Rattle.pres_write.specs.Basics.{applied, write_of}
use Rattle.pres_plan.proofs.Left.{prefix_rest}

one_more : (tree : Rows Scalar) (p : Path) (earlier : List Basic) (last : Basic)
    → value_at p (applied tree (earlier ++ last ∷ [])) ≡ value_at p (tree_after ((write [] tree ∷ map write_of earlier) ++ write_of last ∷ []))
one_more tree p earlier last = ap (λ ws. value_at p (tree_after (write [] tree ∷ ws))) (map-append write_of earlier (last ∷ []))

-- none of the writes is at the path or below it
abbrev pub NoneBelow : Path → List Basic → Type 0
NoneBelow p writes = list_any (λ b. is_prefix p b.path) writes ≡ false

pub none_before : (p : Path) (earlier : List Basic) (last : Basic) → NoneBelow p (earlier ++ last ∷ []) → NoneBelow p earlier × (is_prefix p last.path ≡ false)
none_before p earlier last h =
    let parts = or_parts (list_any (λ b. is_prefix p b.path) earlier) _ (sym (list_any-append (λ b. is_prefix p b.path) earlier (last ∷ [])) ∙ h) in
    (parts.0, (or_parts (is_prefix p last.path) false parts.1).0)

-- a last write above the path decides what stands there
pub held_above : (tree : Rows Scalar) (p : Path) (earlier : List Basic) (last : Basic) (v : Rows Scalar) → rows_in last.value ≡ v → is_prefix last.path p ≡ true → InOrder v
    → value_at p (applied tree (earlier ++ last ∷ [])) ≡ value_at (drop (length last.path) p) v
held_above tree p earlier last v is above order =
    one_more tree p earlier last
    ∙ ap (λ u. value_at p (tree_after ((write [] tree ∷ map write_of earlier) ++ write last.path u ∷ []))) is
    ∙ value_under p last.path (write [] tree ∷ map write_of earlier) v above order

-- one that isn't above it, neither at it nor below it, leaves it
pub held_elsewhere : (tree : Rows Scalar) (p : Path) (earlier : List Basic) (last : Basic) → is_prefix p last.path ≡ false → is_prefix last.path p ≡ false
    → value_at p (applied tree (earlier ++ last ∷ [])) ≡ value_at p (applied tree earlier)
held_elsewhere tree p earlier last below above =
    one_more tree p earlier last
    ∙ value_kept p (write [] tree ∷ map write_of earlier) (write_of last ∷ []) (λ i. (above i || below i) || false)

-- no shorter, and neither at the path nor below it: not above it
pub not_shorter : (p q : Path) → is_prefix p q ≡ false → length p ≤ length q → is_prefix q p ≡ false
not_shorter p q below long = by_case (is_prefix q p) refl where
  by_case : (b : Bool) → is_prefix q p ≡ b → is_prefix q p ≡ false
  by_case false h = h
  by_case true h =
      let more = prefix_rest q p h in
      let none : more.0 ≡ [] = nil_from_length more.0 (omega (arith, long, ap length more.1, length-append q more.0)) in
      let same : p ≡ q = more.1 ∙ ap (λ z. q ++ z) none ∙ append-nil q in
      absurd (true≢false (sym (prefix-append p []) ∙ ap (is_prefix p) (append-nil p ∙ same) ∙ below))

pub no_writes : (writes : List Basic) → length writes ≡ 0 → writes ≡ []
no_writes [] h = refl
no_writes (w ∷ writes) h = absurd (omega arith)
