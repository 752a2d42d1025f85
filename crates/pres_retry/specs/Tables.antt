-- The answered writes of each client, which are numbered 1, 2, .. without a gap.
use Rattle.std.specs.Prelude.{ℕ, List, [], ◌∷◌, ◌++◌, length, unwrap_or, IfSome}
use Rattle.std.specs.FinMap.Entries.{find, put}
use Rattle.pres_ids.specs.Ids.{ClientId, client_cmp}
use Rattle.pres_ids.specs.Numbers.{IsNumber}
use Rattle.pres_write.specs.declared.outcome.Kept.{Kept}
use Rattle.pres_retry.specs.declared.table.Row.{Row}

abbrev pub row : ℕ → Kept → Row
row done kept = record { done = done; kept = kept }

-- the clients that have answered writes, in byte order, each with what is kept of its writes 1, 2, ..
abbrev pub Table : Type 0
Table = List (ClientId × List Row)

-- what is kept of the client's writes 1, 2, .., nothing for a stranger
abbrev pub rows_of : ClientId → Table → List Row
rows_of client table = unwrap_or (find client_cmp client table) []

-- the table with a row after those of the client
abbrev pub with_row : ClientId → Row → Table → Table
with_row client row table = put client_cmp client (rows_of client table ++ row ∷ []) table

-- the table after the client's next write, number n
abbrev pub recorded : ClientId → ℕ → Row → Table → Table
recorded client n row table = with_row client row table

-- each client of the table has rows of its writes 1 to a number
abbrev pub AreNumbered : Table → Type 0
AreNumbered table = (client : ClientId) → IfSome (find client_cmp client table) (λ rows. IsNumber (length rows))
