-- The rows of writes that were done after a number, and of those that were done at it or before.
use Rattle.std.specs.Prelude.{ℕ, ◌<◌, nat_lt, nat_le, List, [], ◌∷◌, filter}
use Rattle.pres_retry.specs.declared.table.Row.{Row}

-- the rows of the writes that were done after the number
abbrev pub rows_above : ℕ → List Row → List Row
rows_above number rows = filter (λ row. nat_lt number row.done) rows

-- the rows of the writes that were done at the number or before it
abbrev pub rows_up_to : ℕ → List Row → List Row
rows_up_to number rows = filter (λ row. nat_le row.done number) rows

-- each write was done after the one before it, the first one after number `before`
abbrev pub AreRising : ℕ → List Row → Type 0
AreRising before [] = Unit {0}
AreRising before (row ∷ later) = (before < row.done) × AreRising row.done later
