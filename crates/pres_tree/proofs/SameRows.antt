-- The test of rows is true exactly where they are equal.
use Rattle.std.proofs.Common.{◌≡◌, Bool, true, false, refl, ap, ◌==◌, ◌&&◌, List, ℕ}
use Rattle.std.specs.Prelude.{◌↔◌, IsTrue}
use Rattle.std.specs.Bool.{Decides, one_answer}
use Rattle.std.specs.Cmp.{booleans_Decides, signed_Decides, unsigned_Decides}
use Rattle.std.specs.Cmp.Lexicographic.{pointwise}
use Rattle.std.proofs.lemmas.Slice.Eq.{slice_eq-Decides}
use Rattle.pres_tree.specs.declared.scalar.Scalar.{Scalar}
use Rattle.pres_tree.specs.declared.scalar.Scalar.TheVariants.{Bool as BoolOf, Int, Text}
use Rattle.pres_tree.specs.Paths.{Path}
use Rattle.pres_tree.specs.Rows.{Rows}
use Rattle.pres_tree.specs.Scalars.{same_scalar, same_rows}

texts_decide : (s t : List ℕ) → Decides (pointwise ◌==◌ s t) (s ≡ t)
texts_decide s t = slice_eq-Decides unsigned_Decides s t (pointwise ◌==◌ s t) refl

paths_decide : (p q : Path) → Decides (pointwise (pointwise ◌==◌) p q) (p ≡ q)
paths_decide p q = slice_eq-Decides texts_decide p q (pointwise (pointwise ◌==◌) p q) refl

pub scalars_decide : (a b : Scalar) → Decides (same_scalar a b) (a ≡ b)
scalars_decide (BoolOf a) (BoolOf b) = (λ e. ap BoolOf ((booleans_Decides a b).0 e), λ e. (booleans_Decides a b).1 (cc))
scalars_decide (Int a) (Int b) = (λ e. ap Int ((signed_Decides a b).0 e), λ e. (signed_Decides a b).1 (cc))
scalars_decide (Text a) (Text b) = (λ e. ap Text ((texts_decide a b).0 e), λ e. (texts_decide a b).1 (cc))
scalars_decide (BoolOf a) (Int b) = (λ e. cc, λ e. cc)
scalars_decide (BoolOf a) (Text b) = (λ e. cc, λ e. cc)
scalars_decide (Int a) (BoolOf b) = (λ e. cc, λ e. cc)
scalars_decide (Int a) (Text b) = (λ e. cc, λ e. cc)
scalars_decide (Text a) (BoolOf b) = (λ e. cc, λ e. cc)
scalars_decide (Text a) (Int b) = (λ e. cc, λ e. cc)

both_of : (a b : Bool) → (a && b) ≡ true → (a ≡ true) × (b ≡ true)
both_of true b h = (refl, h)
both_of false b h = absurd cc

row_decides : (r s : Path × Scalar) → Decides (pointwise (pointwise ◌==◌) r.0 s.0 && same_scalar r.1 s.1) (r ≡ s)
row_decides r s = (
  λ e.
      let each = both_of (pointwise (pointwise ◌==◌) r.0 s.0) (same_scalar r.1 s.1) e in
      λ i. ((paths_decide r.0 s.0).0 each.0 i, (scalars_decide r.1 s.1).0 each.1 i),
  λ e i. (paths_decide r.0 s.0).1 (ap (λ t. t.0) e) i && (scalars_decide r.1 s.1).1 (ap (λ t. t.1) e) i,
)

pub rows_decide : (v w : Rows Scalar) → Decides (same_rows v w) (v ≡ w)
rows_decide v w = slice_eq-Decides row_decides v w (same_rows v w) refl

-- an answer that is true exactly where two values are equal is the test
pub same_by : (b : Bool) (v w : Rows Scalar) → IsTrue b ↔ (v ≡ w) → b ≡ same_rows v w
same_by b v w h = one_answer b (same_rows v w) h (rows_decide v w)
