-- The tree after some of a list of basic writes.
use Rattle.std.proofs.Common.{◌≡◌, ℕ, ◌+◌, ◌<◌, List, [], ◌∷◌, ◌++◌, map, length, get_or, take, refl, sym, ap, ◌∙◌}
use Rattle.std.proofs.lemmas.List.{take_more}
use Rattle.std.specs.Prelude.{Result, Ok, Err, IsErr, IsErrAnd, IfErr}
use Rattle.pres_tree.specs.declared.fault.TreeFault.{TreeFault}
use Rattle.pres_tree.specs.declared.fault.TreeFault.TheVariants.{Memory}
use Rattle.pres_tree.specs.declared.scalar.Scalar.{Scalar}
use Rattle.pres_tree.specs.Rows.{Rows, IsValue}
use Rattle.pres_tree.specs.Writes.{write, after}
use Rattle.pres_tree.proofs.Last.{last_write_decides, tree_grows}
use Rattle.pres_tree.proofs.Found.{same_rows, in_order-after}
use Rattle.pres_write.specs.declared.basic.Basic.{Basic}
use Rattle.pres_write.specs.declared.fault.WriteFault.{WriteFault}
use Rattle.pres_write.specs.declared.fault.WriteFault.TheVariants.{Tree}
use Rattle.pres_write.specs.Basics.{write_of, applied, AppliesFirst}

pub applied_nothing : (t : Rows Scalar) → IsValue t → applied t [] ≡ t
applied_nothing t v = same_rows (applied t []) t (in_order-after t []) v.in_order (λ x. last_write_decides (write [] t ∷ []) x)

writes_append : (ws ms : List Basic) → map write_of (ws ++ ms) ≡ map write_of ws ++ map write_of ms
writes_append [] ms = refl
writes_append (w ∷ ws) ms = ap (λ l. write_of w ∷ l) (writes_append ws ms)

-- one write more
pub applied_then : (t : Rows Scalar) (ws : List Basic) (w : Basic) → applied t (ws ++ w ∷ []) ≡ after (applied t ws) (write_of w ∷ [])
applied_then t ws w =
    ap (after t) (writes_append ws (w ∷ []))
    ∙ sym (tree_grows (write [] t ∷ map write_of ws) (write_of w ∷ []))

pub applied_more : (t : Rows Scalar) (ws : List Basic) (i : ℕ) (w : Basic) → i < length ws → w ≡ get_or ws i w → after (applied t (take i ws)) (write_of w ∷ []) ≡ applied t (take (i + 1) ws)
applied_more t ws i w h is =
    sym (applied_then t (take i ws) w)
    ∙ ap (applied t) (ap (λ v. take i ws ++ v ∷ []) is ∙ sym (take_more ws i w h))

-- the writes done so far are the first of all
pub first_stand : (ws done : List Basic) (t u : Rows Scalar) → u ≡ applied t done → length done < length ws → map (λ w. w) done ≡ take (length done) ws → AppliesFirst ws t u
first_stand ws done t u is left so_far = record { k = length done; some_left = left; stands = is ∙ ap (applied t) (sym (map_same done) ∙ so_far) }
  where
    map_same : (xs : List Basic) → map (λ w. w) xs ≡ xs
    map_same [] = refl
    map_same (x ∷ xs) = ap (λ l. x ∷ l) (map_same xs)

-- what `?` makes of the tree's refusal
pub refused : {A B : Type 0} (r : Result A WriteFault) (e : TreeFault) → IsErr r × IsErrAnd r (λ x. x ≡ Tree e) → e ≡ Memory → B → IfErr r (λ x. (x ≡ Tree Memory) × B)
refused (Ok a) e h m b = tt
refused (Err x) e h m b = (h.1 ∙ ap Tree m, b)
