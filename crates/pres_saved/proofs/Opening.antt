-- What an opening finds, whichever the format.
use Rattle.std.proofs.Common.{◌≡◌, inl, inr, [], ◌∷◌, map, sym, ap, ◌∙◌}
use Rattle.sqlite.specs.Effect.{Database}
use Rattle.sqlite.specs.State.{State}
use Rattle.pres_batch_rows.specs.RowContents.{row_of_format, shown_row, shown_rows, shown_base}
use Rattle.pres_batch_rows.specs.TableStates.{IsOfFormatOne, IsOfFormatTwo, IsOurs}
use Rattle.pres_batch_rows.specs.TableOpening.{IsKept}
use Rattle.pres_saved.specs.SavedHistories.{base_found}

-- no database is of both formats
never_both : (s : State) → IsOfFormatOne s.now → IsOfFormatTwo s.now → ⊥
never_both s one two = absurd (let e : row_of_format 1 ∷ [] ≡ row_of_format 2 ∷ [] = sym one.format ∙ two.format in cc)

-- the checkpoint and the rows that were found are shown
pub found_rows : (old new : State) (ours : IsOurs old.now) → IsKept old new → (shown_base new ≡ base_found old.now ours) × (shown_rows new ≡ shown_rows old)
found_rows old new (inl one) (inl kept) = absurd (never_both old one kept.0)
found_rows old new (inl one) (inr kept) = (ap (map shown_row) kept.1.base, ap (map shown_row) kept.1.rows)
found_rows old new (inr two) (inl kept) = (ap (λ (d : Database). map shown_row (d.trees 3)) kept.1.now, ap (λ (d : Database). map shown_row (d.trees 2)) kept.1.now)
found_rows old new (inr two) (inr kept) = absurd (never_both old kept.0 two)
