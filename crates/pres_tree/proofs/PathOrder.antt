-- The test of paths holds of equal ones alone, and is the tie of their order.
use Rattle.std.proofs.Common.{refl, sym, ◌∙◌, ap, ◌≡◌, true, false, true≢false}
use Rattle.std.specs.Bool.{Decides}
use Rattle.std.specs.Ordering.{eq_by_cmp}
use Rattle.std.specs.Cmp.Lexicographic.{lists_ties, texts_ties, bytes_decides, pointwise_decides}
use Rattle.std.proofs.lemmas.Bool.{false_from_ne_true}
use Rattle.pres_tree.specs.Keys.{key_cmp}
use Rattle.pres_tree.specs.Paths.{Path, path_cmp, same_path}

pub path_decides : (p q : Path) → Decides (same_path p q) (p ≡ q)
path_decides = pointwise_decides bytes_decides

pub path_same : (p q : Path) → same_path p q ≡ true → p ≡ q
path_same p q e = (path_decides p q).0 e

pub path_itself : (p : Path) → same_path p p ≡ true
path_itself p = (path_decides p p).1 refl

pub path_flip : (p q : Path) → same_path p q ≡ false → same_path q p ≡ false
path_flip p q e = false_from_ne_true _ (λ k. true≢false (sym (path_itself p) ∙ ap (same_path p) (sym (path_same q p k)) ∙ e))

pub same_by_cmp : (p q : Path) → same_path p q ≡ eq_by_cmp path_cmp p q
same_by_cmp = lists_ties key_cmp texts_ties
