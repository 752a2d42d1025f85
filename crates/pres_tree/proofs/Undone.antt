-- What takes a write back.
use Rattle.std.proofs.Common.{◌≡◌, List, [], ◌∷◌, ◌++◌, Bool, true, false, cond, not, ◌&&◌, is_some, Option, Some, None, refl, sym, ap, ◌∙◌}
use Rattle.std.specs.Option.{unwrap_or}
use Rattle.std.specs.Map.{lookup}
use Rattle.std.specs.BTreeMap.{is_at}
use Rattle.std.specs.Cmp.{eq_by_cmp_equiv}
use Rattle.std.specs.Cmp.Lexicographic.{nat_list_cmp_total}
use Rattle.pres_tree.specs.Keys.{Key, key_cmp, same_key}
use Rattle.pres_tree.specs.Paths.{Path, below, is_prefix}
use Rattle.pres_tree.specs.Rows.{Rows, IsValue, Fits, InOrder, is_null, leaf_at, value_at}
use Rattle.pres_tree.specs.Writes.{Undoes}
use Rattle.pres_tree.proofs.Found.{HasChildren, SetsChild, key_same, leaf_at-set_at, node_write, put_at, rows_at, set_at, write_root}
use Rattle.pres_tree.proofs.Nodes.{in_order-value_at, value_at_child, value_at_root}

-- what stood at the key takes the children back
pub sets_back : {A : Type 0} (k : Key) (w : Option (Rows A)) (es es' : List (Key × Rows A)) → SetsChild k w es es' → SetsChild k (lookup (is_at (key_cmp k)) es) es' es
sets_back k w es es' sets q =
    elim (same_key k q) as (λ b. same_key k q ≡ b → lookup (is_at (key_cmp q)) es ≡ cond b (lookup (is_at (key_cmp k)) es) (lookup (is_at (key_cmp q)) es')) [
      | true ↦ λ e. ap (λ l. lookup (is_at (key_cmp l)) es) (sym (key_same k q e))
      | false ↦ λ e. sym (sets q ∙ ap (λ b. cond b w (lookup (is_at (key_cmp q)) es)) e)
    ] refl

either_none : {A : Type 0} (b : Bool) → ◌≡◌ {A = Option A} None (cond b None None)
either_none true = refl
either_none false = refl

-- the children es of t became es' of t', and the value v below the key takes them back
pub back_child : {A : Type 0} (keys : Path) (k : Key) (p : Path) (v t t' : Rows A) (es es' : List (Key × Rows A)) (w : Option (Rows A))
    → keys ≡ k ∷ p → HasChildren t es → HasChildren t' es' → SetsChild k w es es'
    → leaf_at t [] ≡ None → leaf_at t' [] ≡ None → InOrder t
    → rows_at k es ≡ set_at p v (rows_at k es')
    → t ≡ set_at keys v t'
back_child keys k p v t t' es es' w is has has' sets root root' order child =
    node_write k p v t' t es' es (lookup (is_at (key_cmp k)) es) has' has (sets_back k w es es' sets)
    (root ∙ either_none (not (is_null v)) ∙ ap (cond (not (is_null v)) None) (sym root'))
    child order
    ∙ ap (λ q. set_at q v t') (sym is)

here : {A : Type 0} (k : Key) (u : Rows A) (es es' : List (Key × Rows A)) → SetsChild k (Some u) es es' → lookup (is_at (key_cmp k)) es' ≡ Some u
here k u es es' sets = sets k ∙ ap (λ b. cond b (Some u) (lookup (is_at (key_cmp k)) es)) ((eq_by_cmp_equiv nat_list_cmp_total).refl k)

-- what takes the child back takes the whole back
pub undoes_child : {A : Type 0} (q : Path) (k : Key) (p : Path) (v t t' u : Rows A) (es es' : List (Key × Rows A))
    → q ≡ k ∷ p → HasChildren t es → HasChildren t' es' → SetsChild k (Some u) es es'
    → leaf_at t [] ≡ None → leaf_at t' [] ≡ None → InOrder t → InOrder t' → InOrder u
    → Undoes p v (rows_at k es) u
    → Undoes q v t t'
undoes_child q k p v t t' u es es' is has has' sets root root' order order' order-u undoes = record {
  stands = ap (λ x. is_null (value_at x t')) is
      ∙ ap is_null (value_at_child k p t' u (value_at p u) es' has' (here k u es es' sets) order' (in_order-value_at p u order-u) refl)
      ∙ undoes.stands;
  back = back_child q k p v t t' es es' (Some u) is has has' sets root root' order
      (undoes.back ∙ ap (set_at p v) (sym (ap (λ o. unwrap_or o []) (here k u es es' sets))));
}

-- what took the place of all of a value is taken back
pub undoes_root : {A : Type 0} (t new : Rows A) → InOrder t → is_null new ≡ false → Undoes [] t t new
undoes_root t new order some = record { stands = ap is_null (value_at_root new) ∙ some; back = write_root t new order }

below-append : (p x : Path) → below p (p ++ x) ≡ Some x
below-append [] x = refl
below-append (k ∷ p) x = ap (λ b. cond b (below p (p ++ x)) None) ((eq_by_cmp_equiv nat_list_cmp_total).refl k) ∙ below-append p x

-- what takes a value back may stand where it stood
pub fits_back : {A : Type 0} (p : Path) (v old new : Rows A) → IsValue old → Undoes p v old new → Fits p v
fits_back p v old new value undoes x h =
    value.paths (p ++ x) (ap is_some (ap (λ t. leaf_at t (p ++ x)) undoes.back ∙ leaf_at-set_at p v new (p ++ x)
    ∙ ap (λ o. put_at o v (cond (is_prefix (p ++ x) p && not (is_null v)) None (leaf_at new (p ++ x)))) (below-append p x)) ∙ h)
