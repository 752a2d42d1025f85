use Rattle.std.proofs.Common.{◌≡◌, ◌∙◌, ◌==◌, sym, ap, refl, true≢false, Bool, Decides}
use Rattle.std.specs.Cmp.{unsigned_Decides}
use Rattle.std.specs.Cmp.Lexicographic.{pointwise}
use Rattle.std.proofs.lemmas.Slice.Eq.{slice_eq-Decides}
use Rattle.pres_tree.specs.Paths.{Path}
use Rattle.pres_write.specs.Basics.{BasicWrite}
use Rattle.pres_write.proofs.basic.Basic.equal.Goals as goal

-- `==` at paths decides
same_paths : (p q : Path) (r : Bool) → r ≡ pointwise (pointwise ◌==◌) p q → Decides r (p ≡ q)
same_paths p q r e = slice_eq-Decides (λ x y. slice_eq-Decides unsigned_Decides x y (pointwise ◌==◌ x y) refl) p q r e

pub returns-then-eq : goal.returns-then-eq
returns-then-eq c =
    let p = (same_paths c.self.inside.path c.other.inside.path c.eq.result c.eq.ensures).0 c.if-eq.true in (
      λ h.
          let v = sym c.as_ref.ensures.value ∙ c.equal_value.ensures.0 h ∙ c.as_ref-then-eq.ensures.value in
          sym c.self.view_is ∙ (λ i. record { path = p i; value = v i }) ∙ c.other.view_is,
      λ e. c.equal_value.ensures.1 (c.as_ref.ensures.value ∙ ap (λ (b : BasicWrite). b.value) (c.self.view_is ∙ e ∙ sym c.other.view_is) ∙ sym c.as_ref-then-eq.ensures.value),
    )

pub returns-else-eq : goal.returns-else-eq
returns-else-eq c = (
  λ h. absurd (true≢false (sym h ∙ c.if-eq.false)),
  λ e. (same_paths c.self.inside.path c.other.inside.path c.eq.result c.eq.ensures).1 (ap (λ (b : BasicWrite). b.path) (c.self.view_is ∙ e ∙ sym c.other.view_is)),
)
