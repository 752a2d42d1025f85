-- Operations that wait for one commit, and what they change for the next one.
use Rattle.std.specs.Prelude.{ℕ, ◌+◌, ◌≡◌, ◌≤◌, Bool, false, ◌||◌, List, [], ◌∷◌, length, Option, if◌then◌else◌}
use Rattle.std.specs.List.{list_any}
use Rattle.std.specs.Option.{option_map}
use Rattle.pres_tree.specs.declared.scalar.Scalar.{Scalar}
use Rattle.pres_tree.specs.Paths.{Path, meet}
use Rattle.pres_tree.specs.Rows.{Rows}
use Rattle.pres_write.specs.declared.op.Op.{Op}
use Rattle.pres_write.specs.Basics.{BasicWrite, applied}
use Rattle.pres_ids.specs.declared.id.SessionId.{SessionId}
use Rattle.pres_ids.specs.Ids.{ClientId, same_client}
use Rattle.pres_retry.specs.declared.table.Row.{Row}
use Rattle.pres_retry.specs.Verdicts.{WriteStatus, fresh, again, verdict}
use Rattle.pres_log.specs.declared.entry.Entry.{Entry}
use Rattle.pres_log.specs.declared.entry.Entry.TheVariants as entry
use Rattle.pres_log.specs.Logs.{Log, writes_of}
use Rattle.pres_server.specs.declared.ahead.OpEffect.{OpEffect}
use Rattle.pres_server.specs.declared.ahead.OpEffect.TheVariants as effect
use Rattle.pres_server.specs.declared.ahead.WriteOrder.{WriteOrder}
use Rattle.pres_server.specs.declared.ahead.WriteOrder.TheVariants as order
use Rattle.pres_server.specs.declared.index.Index.{Index}
use Rattle.pres_server.specs.declared.turn.TurnTime.{TurnTime}
use Rattle.pres_server.specs.Turns.{Decision, makes, op_by}
use Rattle.pres_server.specs.InternalParts.{LivePart, Part, said_by}
use Rattle.pres_server.specs.InternalIndex.{part_at, limited_on}
use Rattle.pres_server.specs.Sums.{Sum, sum_from}
use Rattle.pres_server.specs.SumTurns.{FollowAll}

-- ---- batches of operations

-- the entry is of an operation, which is done, or was done before
abbrev pub IsOfOp : Entry → Type 0
IsOfOp (entry.Op s q n op outcome) = Unit {0}
IsOfOp (entry.Again s q n) = Unit {0}
IsOfOp _ = ⊥

-- one such entry
abbrev pub IsOneOp : List Entry → Type 0
IsOneOp (e ∷ []) = IsOfOp e
IsOneOp _ = ⊥

-- each batch is of one operation
abbrev pub AreOps : Log → Type 0
AreOps [] = Unit {0}
AreOps (batch ∷ later) = IsOneOp batch.entries × AreOps later

-- ---- what they change

-- one where they are the same client
abbrev pub once : ClientId → ClientId → ℕ
once client other = if same_client client other then 1 else 0

-- how many messages of the client the entry of an operation answers
abbrev pub said_in : ClientId → List Entry → ℕ
said_in client (entry.Op s q n op outcome ∷ []) = once s.client client
said_in client (entry.Again s q n ∷ []) = once s.client client
said_in client _ = 0

-- how many new writes of the client it does
abbrev pub done_in : ClientId → List Entry → ℕ
done_in client (entry.Op s q n op outcome ∷ []) = once s.client client
done_in client _ = 0

-- what it writes
abbrev pub written_in : List Entry → List BasicWrite
written_in (e ∷ []) = writes_of e
written_in _ = []

-- the same of batches
abbrev pub said_of : ClientId → Log → ℕ
said_of client [] = 0
said_of client (batch ∷ later) = said_in client batch.entries + said_of client later

abbrev pub done_of : ClientId → Log → ℕ
done_of client [] = 0
done_of client (batch ∷ later) = done_in client batch.entries + done_of client later

abbrev pub tree_from : Rows Scalar → Log → Rows Scalar
tree_from tree [] = tree
tree_from tree (batch ∷ later) = tree_from (applied tree (written_in batch.entries)) later

-- one of them writes at the path, above it or below it
abbrev pub meets : Path → List BasicWrite → Bool
meets path writes = list_any (λ w. meet w.path path) writes

abbrev pub some_meet : Path → Log → Bool
some_meet path [] = false
some_meet path (batch ∷ later) = meets path (written_in batch.entries) || some_meet path later

-- an open session once this many of its messages more are answered, which leave nothing
abbrev pub further : ℕ → LivePart → LivePart
further said live = record { stamp = live.stamp; count = live.count + said; plan = live.plan }

-- a client once this many of its messages more are answered, and this many of its writes more are done
pub record IsFurther (said done : ℕ) (old new : Part) : Type 0 where
  pub live : new.live ≡ option_map (further said) old.live
  pub rows : length new.rows ≡ length old.rows + done

-- ---- what a group holds

-- the batches may follow the sum, one after another, and the moment is the greatest after them
pub record IsGroup (sum : Sum) (batches : Log) (moment : ℕ) : Type 0 where
  pub follow : FollowAll sum batches
  pub ops : AreOps batches
  pub greatest : moment ≡ (sum_from sum batches).moment
  pub few : length batches ≤ 256

-- ---- the next operation

-- what write n is once this many writes more are done, of a client with these rows
abbrev pub IsOrdered : WriteOrder → ℕ → ℕ → List Row → Type 0
IsOrdered order.New n done old = (rows : List Row) → length rows ≡ length old + done → verdict n rows ≡ fresh
IsOrdered order.Again n done old = (rows : List Row) → length rows ≡ length old + done → (row : Row) × (verdict n rows ≡ again row)
IsOrdered order.Gap n done old = Unit {0}

-- the entry that an operation makes
abbrev pub entry_by : OpEffect → SessionId → ℕ → ℕ → Op → Entry
entry_by (effect.Done outcome) s q n op = entry.Op s q n op outcome
entry_by effect.Again s q n op = entry.Again s q n

-- what the operation makes on the index after the batches, wherever they take its client
abbrev pub IsEffectAfter : Index → Log → SessionId → ℕ → ℕ → Op → TurnTime → OpEffect → Type 0
IsEffectAfter index batches s q n op now made = (part : Part) → IsFurther (said_of s.client batches) (done_of s.client batches) (part_at index s.client) part
    → limited_on index now.number (said_by part.live s q (op_by (verdict n part.rows) (tree_from index.tree batches) now.moment s q n op)) ≡ makes (entry_by made s q n op ∷ [])
