-- Plans: what stands of a session's puts and cancels, and what is written at its end. Puts, updates and cancels
-- behave as those of onDisconnect of Firebase Realtime Database.
use Rattle.std.specs.Prelude.{◌≡◌, ◌≤◌, ◌&&◌, ◌||◌, ℕ, Bool, true, false, not, Option, Some, None, List, [], ◌∷◌, ◌++◌, All, map, length, filter, if◌then◌else◌}
use Rattle.std.specs.Borrow.{Bor}
use Rattle.std.specs.List.{list_any}
use Rattle.std.specs.List.Sorted.{IsStrictlySortedBy}
use Rattle.std.specs.Ordering.{nat_cmp, ordering_then}
use Rattle.std.specs.declared.cmp.Ordering.{Ordering}
use Rattle.std.specs.declared.cmp.Ordering.TheVariants.{Less}
use Rattle.pres_tree.specs.Paths.{Path, path_cmp, is_prefix, meet}
use Rattle.pres_tree.specs.Rows.{Rows, IsValue, value_at}
use Rattle.pres_tree.specs.declared.scalar.Scalar.{Scalar}
use Rattle.pres_write.specs.declared.basic.Basic.{Basic}
use Rattle.pres_write.specs.declared.draft.DraftLeaf.{DraftLeaf}
use Rattle.pres_write.specs.Basics.{basic, applied}
use Rattle.pres_write.specs.Settling.{settled_write}
use Rattle.pres_plan.specs.declared.row.Action.{Action}
use Rattle.pres_plan.specs.declared.row.Action.TheVariants.{Put, Keep}
use Rattle.pres_plan.specs.declared.row.PlanRow.{PlanRow}
use Rattle.pres_plan.specs.declared.row.DueRow.{DueRow}

-- ---- actions: a put, or a cancel, which is a row that keeps

-- one put for each placement, in order
abbrev pub puts : ℕ → List (Path × Rows DraftLeaf) → List PlanRow
puts q placements = map (λ p. record { q = q; action = Put p }) placements

abbrev pub cancels : ℕ → Path → List PlanRow
cancels q path = record { q = q; action = Keep path } ∷ []

abbrev pub path_of : Action → Path
path_of (Put placement) = placement.0
path_of (Keep path) = path

abbrev pub is_put : Action → Bool
is_put (Put placement) = true
is_put (Keep path) = false

-- ---- plans

-- the later row is at the path of the other one or above it
abbrev pub covers : PlanRow → PlanRow → Bool
covers later row = is_prefix (path_of later.action) (path_of row.action)

-- none of the later rows covers the row
abbrev pub is_left : List PlanRow → PlanRow → Bool
is_left later row = not (list_any (λ l. covers l row) later)

-- the actions that no later one covers
abbrev pub lasting : List PlanRow → List PlanRow
lasting [] = []
lasting (a ∷ later) = if is_left later a then a ∷ lasting later else lasting later

-- the row puts a draft above the path
abbrev pub puts_above : Path → PlanRow → Bool
puts_above path row = is_put row.action && (is_prefix (path_of row.action) path && not (is_prefix path (path_of row.action)))

-- a put matters, and a cancel where a put is left above it: there the place keeps its value
abbrev pub matters : List PlanRow → PlanRow → Bool
matters left row = is_put row.action || list_any (puts_above (path_of row.action)) left

-- the rows that a list of actions leaves, in the order of the actions
abbrev pub plan_of : List PlanRow → List PlanRow
plan_of actions = let left = lasting actions in filter (matters left) left

-- the most rows of a plan
abbrev pub most_rows : ℕ
most_rows = 256

-- rows are ordered by the numbers of the messages that asked for them, then by path
abbrev pub row_cmp : PlanRow → PlanRow → Ordering
row_cmp a b = ordering_then (nat_cmp a.q b.q) (path_cmp (path_of a.action) (path_of b.action))

-- the number and the path come after those of each row
abbrev pub ComesLast : ℕ → Path → List PlanRow → Type 0
ComesLast q path rows = All (λ row. ordering_then (nat_cmp row.q q) (path_cmp (path_of row.action) path) ≡ Less) rows

-- what every plan keeps: its rows stand for themselves, they are few, and they are in strict order
pub record IsPlan (rows : List PlanRow) : Type 0 where
  pub whole : plan_of rows ≡ rows
  pub few : length rows ≤ most_rows
  pub in_order : IsStrictlySortedBy row_cmp rows

-- ---- rows that are lent by their parts

-- an action: the path, and the draft, none where the place keeps its value
abbrev pub action_of : Path → Option (Rows DraftLeaf) → Action
action_of path None = Keep path
action_of path (Some draft) = Put (path, draft)

abbrev pub lent_draft : Option (Bor (Rows DraftLeaf)) → Option (Rows DraftLeaf)
lent_draft None = None
lent_draft (Some draft) = Some draft.now

-- a row: its number and its action
abbrev pub lent_row : ℕ × Bor Path × Option (Bor (Rows DraftLeaf)) → PlanRow
lent_row parts = record { q = parts.0; action = action_of parts.1.now (lent_draft parts.2) }

-- ---- the end

-- what an action writes after the writes that were due before it: a put its draft, its increments on the tree that these
-- leave; a row that keeps what stood at its path before all of them
abbrev pub due_write : Rows Scalar → List Basic → ℕ → Action → Basic
due_write tree before moment (Put placement) = settled_write (applied tree before) moment placement
due_write tree before moment (Keep path) = basic path (value_at path tree)

-- the writes of these rows after those that were due before them
abbrev pub due_after : Rows Scalar → List Basic → ℕ → List PlanRow → List Basic
due_after tree before moment [] = []
due_after tree before moment (row ∷ rows) =
    let made = due_write tree before moment row.action in made ∷ due_after tree (before ++ made ∷ []) moment rows

-- the writes of all rows
abbrev pub due : Rows Scalar → ℕ → List PlanRow → List Basic
due tree moment rows = due_after tree [] moment rows

-- each with the number of the message that asked for it
abbrev pub numbered : List PlanRow → List Basic → List DueRow
numbered [] writes = []
numbered (row ∷ rows) [] = []
numbered (row ∷ rows) (b ∷ writes) = record { q = row.q; basic = b } ∷ numbered rows writes

abbrev pub due_rows : Rows Scalar → ℕ → List PlanRow → List DueRow
due_rows tree moment rows = numbered rows (due tree moment rows)

-- ---- laws

-- To add actions to a plan is to plan all actions: its rows stand for what made them.
abbrev pub PlanGrows : List PlanRow → List PlanRow → Type 0
PlanGrows old new = plan_of (plan_of old ++ new) ≡ plan_of (old ++ new)

-- A cancelled place that no later action meets holds after the end what it held before.
abbrev pub CancelKeeps : Rows Scalar → ℕ → List PlanRow → ℕ → Path → List PlanRow → Type 0
CancelKeeps tree moment before q path later =
    IsValue tree → list_any (λ l. meet (path_of l.action) path) later ≡ false →
    value_at path (applied tree (due tree moment (plan_of (before ++ cancels q path ++ later)))) ≡ value_at path tree
