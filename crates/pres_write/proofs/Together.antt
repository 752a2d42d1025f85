-- Writes that don't meet, carried out in another order.
use Rattle.std.proofs.Common.{◌≡◌, List, [], ◌∷◌, ◌++◌, map, Bool, true, false, ◌||◌, refl, sym, ap, ◌∙◌}
use Rattle.std.specs.List.{list_any}
use Rattle.pres_tree.specs.declared.scalar.Scalar.{Scalar}
use Rattle.pres_tree.specs.Paths.{Path, meet, overlap}
use Rattle.pres_tree.specs.Rows.{Rows, InOrder, rows_in}
use Rattle.pres_tree.specs.Writes.{write, after}
use Rattle.pres_tree.proofs.Found.{in_order-after, same_rows}
use Rattle.pres_tree.proofs.Last.{last_write_decides, tree_grows}
use Rattle.pres_tree.proofs.Swapped.{swap_writes}
use Rattle.pres_write.specs.declared.basic.Basic.{Basic}
use Rattle.pres_write.specs.Basics.{Apart, applied, write_of}

abbrev paths_of : List Basic → List Path
paths_of ws = map (λ b. b.path) ws

neither : (a b : Bool) → (a || b) ≡ false → (a ≡ false) × (b ≡ false)
neither true b h = absurd cc
neither false b h = (refl, h)

-- no path of these writes meets p
abbrev pub Clear : Path → List Basic → Type 0
Clear p [] = Unit {0}
Clear p (w ∷ ws) = (meet w.path p ≡ false) × Clear p ws

append_any : (f : Path → Bool) (ps : List Path) (q : Path) → list_any f (ps ++ q ∷ []) ≡ false → (list_any f ps ≡ false) × (f q ≡ false)
append_any f [] q h = (refl, (neither (f q) false h).0)
append_any f (p ∷ ps) q h =
    let each = neither (f p) (list_any f (ps ++ q ∷ [])) h in
    let rest = append_any f ps q each.1 in
    ((λ i. each.0 i || rest.0 i), rest.1)

paths-append : (ws : List Basic) (w : Basic) → paths_of (ws ++ w ∷ []) ≡ paths_of ws ++ w.path ∷ []
paths-append [] w = refl
paths-append (x ∷ ws) w = ap (λ ps. x.path ∷ ps) (paths-append ws w)

-- of writes that are apart the last meets none of the others, which are apart
pub apart_last : (ws : List Basic) (w : Basic) → Apart (ws ++ w ∷ []) → Apart ws × Clear w.path ws
apart_last [] w h = (refl, tt)
apart_last (x ∷ ws) w h =
    let each = neither (list_any (meet x.path) (paths_of (ws ++ w ∷ []))) (overlap (paths_of (ws ++ w ∷ []))) h in
    let rest = apart_last ws w each.1 in
    let first = append_any (meet x.path) (paths_of ws) w.path (ap (list_any (meet x.path)) (sym (paths-append ws w)) ∙ each.0) in
    ((λ i. first.0 i || rest.0 i), (first.1, rest.1))

-- the first write of a list
applied_first : (t : Rows Scalar) (x : Basic) (ws : List Basic) → applied t (x ∷ ws) ≡ applied (after t (write_of x ∷ [])) ws
applied_first t x ws = sym (tree_grows (write [] t ∷ write_of x ∷ []) (map write_of ws))

nothing : (t : Rows Scalar) → InOrder t → applied t [] ≡ t
nothing t v = same_rows (applied t []) t (in_order-after t []) v (λ x. last_write_decides (write [] t ∷ []) x)

-- a write that meets none of the others may come first
pub put_first : (t : Rows Scalar) (ws : List Basic) (w : Basic) → InOrder t → Clear w.path ws → applied (after t (write_of w ∷ [])) ws ≡ after (applied t ws) (write_of w ∷ [])
put_first t [] w order clear = nothing (after t (write_of w ∷ [])) (in_order-after t (write_of w ∷ [])) ∙ ap (λ u. after u (write_of w ∷ [])) (sym (nothing t order))
put_first t (x ∷ ws) w order clear =
    applied_first (after t (write_of w ∷ [])) x ws
    ∙ ap (λ u. applied u ws) (swap_writes x.path w.path (rows_in x.value) (rows_in w.value) t clear.0)
    ∙ put_first (after t (write_of x ∷ [])) ws w (in_order-after t (write_of x ∷ [])) clear.1
    ∙ ap (λ u. after u (write_of w ∷ [])) (sym (applied_first t x ws))
