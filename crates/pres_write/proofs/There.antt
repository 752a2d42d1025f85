-- An operation looks at what stands at its own path, and at nothing else.
use Rattle.std.proofs.Common.{◌≡◌, ℕ, List, [], ◌∷◌, ◌++◌, map, append_assoc, sym, ap, ◌∙◌}
use Rattle.std.specs.Prelude.{if◌then◌else◌}
use Rattle.pres_tree.specs.Paths.{Path}
use Rattle.pres_tree.specs.Rows.{Rows, InOrder, leaf_at, option_of, value_at}
use Rattle.pres_tree.specs.Scalars.{same_rows}
use Rattle.pres_tree.specs.Writes.{write, after}
use Rattle.pres_tree.specs.declared.scalar.Scalar.{Scalar}
use Rattle.pres_tree.proofs.After.{after_same, value_put, value_same}
use Rattle.pres_tree.proofs.Found.{in_order-after, leaf_at-value_at}
use Rattle.pres_tree.proofs.Nodes.{in_order-value_at}
use Rattle.pres_write.specs.declared.basic.Basic.{Basic}
use Rattle.pres_write.specs.declared.op.Op.{Op}
use Rattle.pres_write.specs.declared.op.Op.TheVariants.{Set, Update, Tx}
use Rattle.pres_write.specs.declared.outcome.Outcome.TheVariants.{Wrote, Stale}
use Rattle.pres_write.specs.Basics.{basic, applied, write_of}
use Rattle.pres_write.specs.Outcomes.{named_path, resolved, resolved_after}
use Rattle.pres_write.specs.Settling.{settled}
use Rattle.pres_write.specs.Updates.{Places, update_writes}

-- what stands below a path depends only on what stands at it
below_there : (p q : Path) (s t : Rows Scalar) → InOrder s → InOrder t → value_at p s ≡ value_at p t → value_at (p ++ q) s ≡ value_at (p ++ q) t
below_there p q s t h k e =
    value_same (p ++ q) s t h k
    (λ x. ap (leaf_at s) (append_assoc p q x) ∙ sym (leaf_at-value_at p s (q ++ x)) ∙ ap (λ v. leaf_at v (q ++ x)) e
    ∙ leaf_at-value_at p t (q ++ x) ∙ sym (ap (leaf_at t) (append_assoc p q x)))

writes_there : (p : Path) (s t : Rows Scalar) (moment : ℕ) (places : Places) → InOrder s → InOrder t → value_at p s ≡ value_at p t
    → update_writes s moment (record { path = p; places = places }) ≡ update_writes t moment (record { path = p; places = places })
writes_there p s t moment [] h k e = λ i. []
writes_there p s t moment (place ∷ places) h k e =
    λ i. basic (p ++ place.0) (settled (below_there p place.0 s t h k e i) moment place.1) ∷ writes_there p s t moment places h k e i

pub resolved_there : (s t : Rows Scalar) (moment : ℕ) (op : Op) → InOrder s → InOrder t → value_at (named_path op) s ≡ value_at (named_path op) t → resolved s moment op ≡ resolved t moment op
resolved_there s t moment (Set p) h k e = ap (λ v. Wrote (basic p.0 (settled v moment p.1) ∷ [])) e
resolved_there s t moment (Update u) h k e = ap Wrote (writes_there u.path s t moment u.places h k e)
resolved_there s t moment (Tx c) h k e =
    ap (λ v. if same_rows v c.expect then Wrote (basic c.path (settled v moment c.new) ∷ []) else Stale (option_of v)) e

-- on the tree that has what stands at the path alone the outcome is that on the whole one
pub resolved_alone : (tree start : Rows Scalar) (before : List Basic) (moment : ℕ) (op : Op) → InOrder tree
    → start ≡ after [] (write (named_path op) (value_at (named_path op) tree) ∷ []) → resolved (applied start before) moment op ≡ resolved_after tree before moment op
resolved_alone tree start before moment op order is =
    let p = named_path op in
    let ws = map write_of before in
    resolved_there (after start ws) (after tree ws) moment op (in_order-after start ws) (in_order-after tree ws)
    (after_same p start tree ws (ap (value_at p) is ∙ value_put p (write [] [] ∷ []) (value_at p tree) (in_order-value_at p tree order)))
