-- The numbers of a client's writes in shelves, and the rows that they stand for.
use Rattle.std.specs.Prelude.{◌≡◌, ◌+◌, ◌<◌, ◌≤◌, ℕ, List, [], ◌∷◌, ◌++◌, Option, None, Some, All, length}
use Rattle.std.specs.List.{flat_map}
use Rattle.std.specs.Map.{lookup}
use Rattle.std.specs.BTreeMap.{is_at}
use Rattle.std.specs.Ordering.{nat_cmp}
use Rattle.pres_ids.specs.Numbers.{greatest_number}
use Rattle.pres_tree.specs.Rows.{Rows}
use Rattle.pres_tree.specs.declared.scalar.Scalar.{Scalar}
use Rattle.pres_write.specs.declared.outcome.Kept.{Kept}
use Rattle.pres_write.specs.declared.outcome.Kept.TheVariants.{Wrote, Stale}
use Rattle.pres_retry.specs.declared.table.Row.{Row}
use Rattle.pres_retry.specs.Tables.{row}

-- how many numbers a shelf holds
abbrev pub shelf_length : ℕ
shelf_length = 1024

abbrev pub Shelves : Type 0
Shelves = List (List ℕ)

-- the numbers of the full shelves and of the last one, in order
abbrev pub numbers_in : Shelves → List ℕ → List ℕ
numbers_in full last = flat_map (λ (shelf : List ℕ). shelf) full ++ last

abbrev pub AreFull : Shelves → Type 0
AreFull full = All (λ (shelf : List ℕ). length shelf ≡ shelf_length) full

-- what the places of stale writes held, by the writes' numbers
abbrev pub StaleValues : Type 0
StaleValues = List (ℕ × Option (Rows Scalar))

-- what the place of write n held, none where it isn't stale
abbrev pub stale_at : ℕ → StaleValues → Option (Option (Rows Scalar))
stale_at n stale = lookup (is_at (nat_cmp n)) stale

abbrev pub kept_by : Option (Option (Rows Scalar)) → Kept
kept_by None = Wrote
kept_by (Some held) = Stale held

-- the outcome of write n
abbrev pub kept_at : ℕ → StaleValues → Kept
kept_at n stale = kept_by (stale_at n stale)

-- the rows of writes n, n + 1, .. which were done at these numbers
abbrev pub rows_from : ℕ → List ℕ → StaleValues → List Row
rows_from n [] stale = []
rows_from n (done ∷ numbers) stale = row done (kept_at n stale) ∷ rows_from (n + 1) numbers stale

-- the rows of writes 1, 2, ..
abbrev pub rows_in : Shelves → List ℕ → StaleValues → List Row
rows_in full last stale = rows_from 1 (numbers_in full last) stale

-- all shelves but the last are full, and no write that is to come counts as stale
pub record AreKept (full : Shelves) (last : List ℕ) (stale : StaleValues) : Type 0 where
  pub shelves : AreFull full
  pub room : length last ≤ shelf_length
  pub few : length (numbers_in full last) ≤ greatest_number
  pub later : (n : ℕ) → length (numbers_in full last) < n → stale_at n stale ≡ None
