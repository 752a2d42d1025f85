-- A value whose leaves are changed has its rows changed.
use Rattle.std.proofs.Common.{◌≡◌, suc, length, List, [], ◌∷◌, ◌++◌, false, refl, sym, ap, ◌∙◌}
use Rattle.std.specs.declared.cmp.Ordering.TheVariants.{Less, Equal, Greater}
use Rattle.std.specs.FinMap.Entries.{put, by_order}
use Rattle.std.specs.Map.{keys_of}
use Rattle.pres_tree.specs.Keys.{Key}
use Rattle.pres_tree.specs.Paths.{Path, path_cmp, sorted_by}
use Rattle.pres_tree.specs.Rows.{Rows, is_null, placed, with_leaves, children_with}
use Rattle.pres_tree.specs.Layer.{child_rows, Children}
use Rattle.pres_tree.proofs.Values.{in_order-with}

pub with_leaves-same : {A : Type 0} (v : Rows A) → with_leaves (λ a. a) v ≡ v
with_leaves-same [] = refl
with_leaves-same (r ∷ v) = ap (λ w. r ∷ w) (with_leaves-same v)

pub with_leaves-append : {A B : Type 0} (f : A → B) (v w : Rows A) → with_leaves f (v ++ w) ≡ with_leaves f v ++ with_leaves f w
with_leaves-append f [] w = refl
with_leaves-append f (r ∷ v) w = ap (λ u. (r.0, f r.1) ∷ u) (with_leaves-append f v w)

pub with_leaves-placed : {A B : Type 0} (f : A → B) (p : Path) (v : Rows A) → with_leaves f (placed p v) ≡ placed p (with_leaves f v)
with_leaves-placed f p [] = refl
with_leaves-placed f p (r ∷ v) = ap (λ u. (p ++ r.0, f r.1) ∷ u) (with_leaves-placed f p v)

pub with_leaves-put : {A B : Type 0} (f : A → B) (k : Path) (a : A) (v : Rows A) → with_leaves f (put path_cmp k a v) ≡ put path_cmp k (f a) (with_leaves f v)
with_leaves-put f k a [] = refl
with_leaves-put f k a (r ∷ v) =
    elim (path_cmp k r.0) as (λ o. with_leaves f (by_order o ((k, a) ∷ r ∷ v) ((r.0, a) ∷ v) (r ∷ put path_cmp k a v)) ≡ by_order o ((k, f a) ∷ (r.0, f r.1) ∷ with_leaves f v) ((r.0, f a) ∷ with_leaves f v) ((r.0, f r.1) ∷ put path_cmp k (f a) (with_leaves f v))) [
      | Less ↦ refl
      | Equal ↦ refl
      | Greater ↦ ap (λ u. (r.0, f r.1) ∷ u) (with_leaves-put f k a v)
    ]

pub with_leaves-sorted_by : {A B : Type 0} (f : A → B) (v : Rows A) → with_leaves f (sorted_by path_cmp v) ≡ sorted_by path_cmp (with_leaves f v)
with_leaves-sorted_by f [] = refl
with_leaves-sorted_by f (r ∷ v) = with_leaves-put f r.0 r.1 (sorted_by path_cmp v) ∙ ap (put path_cmp r.0 (f r.1)) (with_leaves-sorted_by f v)

pub child_rows-with : {A B : Type 0} (f : A → B) (es : List (Key × Rows A)) → child_rows (children_with f es) ≡ with_leaves f (child_rows es)
child_rows-with f [] = refl
child_rows-with f (e ∷ es) =
    (λ i. sym (with_leaves-placed f (e.0 ∷ []) e.1) i ++ child_rows-with f es i) ∙ sym (with_leaves-append f (placed (e.0 ∷ []) e.1) (child_rows es))

-- the rows of the changed children
pub changed_object : {A B : Type 0} (f : A → B) (es : List (Key × Rows A)) (fs : List (Key × Rows B)) (t : Rows A)
    → fs ≡ children_with f es → sorted_by path_cmp (child_rows es) ≡ t → sorted_by path_cmp (child_rows fs) ≡ with_leaves f t
changed_object f es fs t is view =
    ap (λ gs. sorted_by path_cmp (child_rows gs)) is ∙ ap (sorted_by path_cmp) (child_rows-with f es)
    ∙ sym (with_leaves-sorted_by f (child_rows es)) ∙ ap (with_leaves f) view

pub changed_not_null : {A B : Type 0} (f : A → B) (v : Rows A) → is_null v ≡ false → is_null (with_leaves f v) ≡ false
changed_not_null f [] h = h
changed_not_null f (r ∷ v) h = refl

pub changed_children : {A B : Type 0} (f : A → B) (es : List (Key × Rows A)) → Children es → Children (children_with f es)
changed_children f [] h = tt
changed_children f (e ∷ es) h = ((changed_not_null f e.1 h.0.0, in_order-with f e.1 h.0.1), changed_children f es h.1)

pub changed_length : {A B : Type 0} (f : A → B) (es : List (Key × Rows A)) → length (children_with f es) ≡ length es
changed_length f [] = refl
changed_length f (e ∷ es) = ap suc (changed_length f es)

pub changed_keys : {A B : Type 0} (f : A → B) (es : List (Key × Rows A)) → keys_of (children_with f es) ≡ keys_of es
changed_keys f [] = refl
changed_keys f (e ∷ es) = ap (λ ks. e.0 ∷ ks) (changed_keys f es)

pub children_with-append : {A B : Type 0} (f : A → B) (es fs : List (Key × Rows A)) → children_with f (es ++ fs) ≡ children_with f es ++ children_with f fs
children_with-append f [] fs = refl
children_with-append f (e ∷ es) fs = ap (λ gs. (e.0, with_leaves f e.1) ∷ gs) (children_with-append f es fs)
