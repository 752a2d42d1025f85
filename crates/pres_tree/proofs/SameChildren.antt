-- Values are equal where their children are.
use Rattle.std.proofs.Common.{◌≡◌, List, [], false, true≢false, Option, Some, None, is_some, refl, sym, ap, ◌∙◌}
use Rattle.std.specs.Option.{unwrap_or}
use Rattle.std.specs.Map.{lookup}
use Rattle.std.specs.BTreeMap.{is_at}
use Rattle.pres_tree.specs.Keys.{Key, key_cmp}
use Rattle.pres_tree.specs.Rows.{Rows, InOrder, is_null, leaf_at}
use Rattle.pres_tree.specs.Layer.{Children, IsNode, rows_of_node}
use Rattle.pres_tree.specs.declared.nested.Node.{Node}
use Rattle.pres_tree.specs.declared.nested.Node.TheVariants.{Empty, Leaf, Object}
use Rattle.pres_tree.proofs.Found.{Children-at, HasChildren, object_root, rows_at, same_rows}
use Rattle.pres_tree.proofs.Nodes.{node_not_null}

order_at : {A : Type 0} (k : Key) (es : List (Key × Rows A)) → Children es → InOrder (rows_at k es)
order_at {A} k es h =
    elim (lookup (is_at (key_cmp k)) es) as (λ o. lookup (is_at (key_cmp k)) es ≡ o → InOrder (unwrap_or o [])) [
      | None ↦ λ e. tt
      | Some w ↦ λ e. (Children-at k w es h e).1
    ] refl

alike : {A : Type 0} (o p : Option (Rows A)) → ((w : Rows A) → o ≡ Some w → is_null w ≡ false) → ((w : Rows A) → p ≡ Some w → is_null w ≡ false) → unwrap_or o [] ≡ unwrap_or p [] → o ≡ p
alike None None h g e = refl
alike None (Some w) h g e = absurd (true≢false (ap is_null e ∙ g w refl))
alike (Some v) None h g e = absurd (true≢false (sym (ap is_null e) ∙ h v refl))
alike (Some v) (Some w) h g e = ap Some e

-- a value has one list of children
pub same_lookup : {A : Type 0} (t : Rows A) (es fs : List (Key × Rows A)) → HasChildren t es → HasChildren t fs → Children es → Children fs → (k : Key) → lookup (is_at (key_cmp k)) es ≡ lookup (is_at (key_cmp k)) fs
same_lookup t es fs has has' h h' k =
    alike (lookup (is_at (key_cmp k)) es) (lookup (is_at (key_cmp k)) fs) (λ w e. (Children-at k w es h e).0) (λ w e. (Children-at k w fs h' e).0)
    (same_rows (rows_at k es) (rows_at k fs) (order_at k es h) (order_at k fs h') (λ x. sym (has k x) ∙ has' k x))

-- an object is nothing else
pub no_object : {A : Type 0} {n : Node A} (n' : Node A) (t u : Rows A) (m : _) → IsNode n → rows_of_node n ≡ t → rows_of_node n' ≡ u → n ≡ Object m → ((m : _) → n' ≡ Object m → ⊥) → t ≡ u → ⊥
no_object {n = n} Empty t u m h v v' is ne e = true≢false (ap is_null (v' ∙ sym e) ∙ node_not_null n t h v (λ g. cc))
no_object {n = n} (Leaf s) t u m h v v' is ne e = true≢false (ap (λ r. is_some (leaf_at r [])) (v' ∙ sym e ∙ sym v ∙ ap rows_of_node is) ∙ ap is_some (object_root m.entries))
no_object {n = n} (Object m') t u m h v v' is ne e = ne m' refl
