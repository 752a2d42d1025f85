-- The log of a server: a list of batches, each with its moment. Its entries are numbered 1, 2, ..
-- That all state is what the entries of the log say is ours: Firebase publishes no log.
use Rattle.std.specs.Prelude.{ℕ, zero, suc, ◌+◌, ◌-◌, ◌≡◌, List, [], ◌∷◌, map, max, take, length, slice_get, Option, Some, None}
use Rattle.std.specs.List.{flat_map, enumerate_from}
use Rattle.pres_tree.specs.declared.scalar.Scalar.{Scalar}
use Rattle.pres_tree.specs.Rows.{Rows}
use Rattle.pres_tree.specs.Writes.{tree_after}
use Rattle.pres_write.specs.declared.basic.Basic.{Basic}
use Rattle.pres_write.specs.Basics.{write_of}
use Rattle.pres_write.specs.Outcomes.{writes_in}
use Rattle.pres_log.specs.declared.entry.Batch.{Batch}
use Rattle.pres_log.specs.declared.entry.Entry.{Entry}
use Rattle.pres_log.specs.declared.entry.Entry.TheVariants as entry

abbrev pub Log : Type 0
Log = List Batch

-- the entries of all batches, in their order
abbrev pub entries : Log → List Entry
entries log = flat_map (λ b. b.entries) log

-- the server number: how many entries there are
abbrev pub number : Log → ℕ
number log = length (entries log)

-- each entry with its number
abbrev pub numbered : List Entry → List (ℕ × Entry)
numbered entries = enumerate_from 1 entries

-- each entry with the moment of its batch
abbrev pub timed : Log → List (ℕ × Entry)
timed log = flat_map (λ b. map (λ e. (b.moment, e)) b.entries) log

-- the item with the number, where items are numbered 1, 2, ..
abbrev pub item_at : {A : Type 0} → List A → ℕ → Option A
item_at items zero = None
item_at items (suc before) = slice_get items before

-- the entry with the number
abbrev pub entry_at : Log → ℕ → Option Entry
entry_at log number = item_at (entries log) number

-- the batch at the place, of which the first is 1
abbrev pub batch_at : Log → ℕ → Option Batch
batch_at log place = item_at log place

-- the entry stands in the log under the number
abbrev pub Stands : Log → ℕ → Entry → Type 0
Stands log number e = entry_at log number ≡ Some e

-- the entry stands in the log under the number, and was made at the moment
abbrev pub StandsAt : Log → ℕ → ℕ → Entry → Type 0
StandsAt log number moment e = item_at (timed log) number ≡ Some (moment, e)

-- the entries before the number
abbrev pub entries_before : Log → ℕ → List Entry
entries_before log number = take (number - 1) (entries log)

-- the greatest moment, 0 in an empty log
abbrev pub last_moment : Log → ℕ
last_moment [] = 0
last_moment (b ∷ log) = max b.moment (last_moment log)

-- the basic writes of an entry: those of an operation's outcome, and those due at an end; what is left for an end,
-- taken back or denied writes nothing
abbrev pub writes_of : Entry → List Basic
writes_of (entry.Op s q n op outcome) = writes_in outcome
writes_of (entry.Ended s q why rows) = rows
writes_of _ = []

-- the basic writes of all of them, in their order
abbrev pub writes : List Entry → List Basic
writes entries = flat_map writes_of entries

-- the tree after these entries
abbrev pub tree : List Entry → Rows Scalar
tree entries = tree_after (map write_of (writes entries))

-- the first number of each batch is one more than the number of entries before it
abbrev pub IsNumbered : Log → Type 0
IsNumbered log = (i : ℕ) (b : Batch) → slice_get log i ≡ Some b → b.first ≡ number (take i log) + 1
