-- What stands in for a write while the later ones are carried out.
use Rattle.std.proofs.Common.{refl, sym, ◌∙◌, ap, subst, ◌≡◌, List, [], ◌∷◌, Option, Some, None, Bool, true, false, true≢false, map, ◌||◌, is_some, append-nil, unwrap_or}
use Rattle.std.specs.List.{list_any}
use Rattle.pres_tree.specs.declared.scalar.Scalar.{Scalar}
use Rattle.pres_tree.specs.declared.scalar.Scalar.TheVariants as scalar
use Rattle.pres_tree.specs.Paths.{Path, IsPath}
use Rattle.pres_tree.specs.Rows.{Rows, Fits, Holds, is_null, rows_in, option_of}
use Rattle.pres_tree.specs.Writes.{write, after}
use Rattle.pres_tree.proofs.Last.{tree_grows}
use Rattle.pres_write.specs.Basics.{BasicWrite, FitsThere, applied, write_of}
use Rattle.pres_server.specs.InternalGrowth.{puts_by, StandsIn, MayBeLast, MayStand}
use Rattle.pres_server.proofs.Rewritten.{puts_near, removed_last, held_over}

near : (p : Path) (ws : List BasicWrite) → list_any (puts_near p) (map write_of ws) ≡ list_any (puts_by p) ws
near p [] = refl
near p (w ∷ ws) = ap (λ b. puts_by p w || b) (near p ws)

-- a removal
removes : (w : BasicWrite) → w.value ≡ None → write_of w ≡ write w.path []
removes w e = ap (λ v. write w.path (rows_in v)) e

pub comes_last : (w : BasicWrite) (later : List BasicWrite) → w.value ≡ None → list_any (puts_by w.path) later ≡ false → MayBeLast w later
comes_last w later e none = λ t.
    removed_last t w.path (map write_of later) (near w.path later ∙ none)
    ∙ ap (λ x. after t (x ∷ map write_of later)) (sym (removes w e))

-- a leaf fits where its path is one
leaf_fits : (p : Path) (leaf : Scalar) → IsPath p → Fits p (([], leaf) ∷ [])
leaf_fits p leaf is [] h = subst IsPath (sym (append-nil p)) is
leaf_fits p leaf is (k ∷ x) h = absurd (true≢false (sym h))

pub holds_place : (w : BasicWrite) (later : List BasicWrite) (leaf : Scalar) → w.value ≡ None → IsPath w.path → list_any (puts_by w.path) later ≡ true → StandsIn w later (([], leaf) ∷ [])
holds_place w later leaf e is some = record {
  some = refl;
  fits = leaf_fits w.path leaf is;
  same = λ t.
      held_over t w.path leaf (map write_of later) (near w.path later ∙ some)
      ∙ ap (λ x. after t (x ∷ map write_of later)) (sym (removes w e));
}

-- null has one form
not_null : (v : Rows Scalar) → Some v ≡ option_of v → is_null v ≡ false
not_null [] h = absurd (true≢false (ap is_some h))
not_null (r ∷ v) h = refl

pub puts_value : (w : BasicWrite) (later : List BasicWrite) (v made : Rows Scalar) → Some v ≡ w.value → w.value ≡ option_of (rows_in w.value) → FitsThere w → made ≡ v → StandsIn w later made
puts_value w later v made e one fits is = subst (StandsIn w later) (sym is) (record {
  some = not_null v (e ∙ one ∙ ap (λ o. option_of (rows_in o)) (sym e));
  fits = subst (λ o. Fits w.path (rows_in o)) (sym e) fits;
  same = λ t.
      tree_grows (write [] t ∷ write w.path v ∷ []) (map write_of later)
      ∙ ap (λ o. after t (write w.path (rows_in o) ∷ map write_of later)) e;
})
