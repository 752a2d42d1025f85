-- What fits at a path.
use Rattle.std.proofs.Common.{ℕ, sym, ◌∙◌}
use Rattle.pres_tree.specs.declared.scalar.Scalar.{Scalar}
use Rattle.pres_tree.specs.Paths.{Path}
use Rattle.pres_tree.specs.Rows.{Rows, Fits}
use Rattle.pres_tree.proofs.ChangedOn.{leaf_at-on}
use Rattle.pres_write.specs.declared.draft.DraftLeaf.{DraftLeaf}
use Rattle.pres_write.specs.Settling.{settled, settled_slot}

pub fits_settled : (p : Path) (d : Rows DraftLeaf) (held : Rows Scalar) (moment : ℕ) → Fits p d → Fits p (settled held moment d)
fits_settled p d held moment h x k = h x (sym (leaf_at-on (settled_slot moment) held d x) ∙ k)
