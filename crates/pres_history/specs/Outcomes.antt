-- The writes of a client and their outcomes, computed from the log. Write n of a client is its n-th.
use Rattle.std.specs.Prelude.{ℕ, List, length, Option, Some, None, if◌then◌else◌}
use Rattle.std.specs.List.{filter_map}
use Rattle.pres_write.specs.Outcomes.{kept_of}
use Rattle.pres_ids.specs.Ids.{ClientId, same_client}
use Rattle.pres_retry.specs.declared.table.Row.{Row}
use Rattle.pres_log.specs.declared.entry.Entry.{Entry}
use Rattle.pres_log.specs.declared.entry.Entry.TheVariants as entry
use Rattle.pres_log.specs.Logs.{numbered}

-- what is kept of entry number `done`, where it made a write of the client
abbrev pub row_in : ClientId → ℕ → Entry → Option Row
row_in client done (entry.Op s q n op outcome) = if same_client client s.client then Some (record { done = done; kept = kept_of outcome }) else None
row_in client done _ = None

-- the client's rows in the order of its writes
abbrev pub rows_for : ClientId → List Entry → List Row
rows_for client entries = filter_map (λ e. row_in client e.0 e.1) (numbered entries)

-- how many writes the client has made
abbrev pub ops : ClientId → List Entry → ℕ
ops client entries = length (rows_for client entries)
