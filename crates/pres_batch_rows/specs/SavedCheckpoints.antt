-- What the table of the checkpoint saves.
use Rattle.std.specs.Prelude.{ℕ, ◌&&◌, nat_le, if◌then◌else◌, List, [], ◌∷◌, Option, Some, None, option_map}
use Rattle.sqlite.specs.Order.{Row, column}
use Rattle.pres_ids.specs.Numbers.{greatest_number}
use Rattle.pres_write.specs.Moments.{last_moment}
use Rattle.pres_batch_rows.specs.declared.base.SavedCheckpoint.{SavedCheckpoint}
use Rattle.pres_batch_rows.specs.RowContents.{RowContent, saved_of, whole_of, text_of}

-- how many batches it stands for, and its moment and text
abbrev pub Base : Type 0
Base = ℕ × RowContent

abbrev pub base_of : SavedCheckpoint → Base
base_of c = (c.batches, saved_of c.row)

-- The number and the moment are at most 2^53 - 1.
abbrev pub base_as : Option ℕ → Option ℕ → Option (List ℕ) → Option Base
base_as (Some k) (Some moment) (Some body) =
    if nat_le k greatest_number && nat_le moment last_moment then Some (k, record { moment = moment; body = body }) else None
base_as _ _ _ = None

-- what a shown row saves, if it saves anything
abbrev pub base_in : Row → Option Base
base_in row = base_as (whole_of (column row 0)) (whole_of (column row 1)) (text_of (column row 2))

-- What the shown rows of the table save: no checkpoint or one, and nothing where there are more rows or a bad one.
abbrev pub saved_base : List Row → Option (Option Base)
saved_base [] = Some None
saved_base (row ∷ []) = option_map Some (base_in row)
saved_base (row ∷ next ∷ more) = None
