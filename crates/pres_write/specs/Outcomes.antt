-- What an operation does to the tree at a moment. Its increments are resolved on the tree before it.
use Rattle.std.specs.Prelude.{ℕ, List, [], ◌∷◌, if◌then◌else◌}
use Rattle.pres_tree.specs.declared.scalar.Scalar.{Scalar}
use Rattle.pres_tree.specs.Paths.{Path}
use Rattle.pres_tree.specs.Rows.{Rows, option_of, value_at}
use Rattle.pres_tree.specs.Scalars.{same_rows}
use Rattle.pres_write.specs.declared.basic.Basic.{Basic}
use Rattle.pres_write.specs.declared.op.Op.{Op}
use Rattle.pres_write.specs.declared.op.Op.TheVariants.{Set, Update, Tx}
use Rattle.pres_write.specs.declared.outcome.Outcome.{Outcome}
use Rattle.pres_write.specs.declared.outcome.Outcome.TheVariants.{Wrote, Stale}
use Rattle.pres_write.specs.declared.outcome.Kept.{Kept}
use Rattle.pres_write.specs.declared.outcome.Kept.TheVariants as kept
use Rattle.pres_write.specs.Basics.{applied}
use Rattle.pres_write.specs.Settling.{settled_write}
use Rattle.pres_write.specs.Updates.{update_writes}
use Rattle.pres_write.specs.Transactions.{Comparison}

-- a transaction is one basic write where its place holds exactly the expected value, and else stale with the value held
abbrev pub compared : Rows Scalar → ℕ → Comparison → Outcome
compared tree moment t =
    if same_rows (value_at t.path tree) t.expect then Wrote (settled_write tree moment (t.path, t.new) ∷ []) else Stale (option_of (value_at t.path tree))

-- a set is one basic write, an update those of its places in path order
abbrev pub resolved : Rows Scalar → ℕ → Op → Outcome
resolved tree moment (Set p) = Wrote (settled_write tree moment p ∷ [])
resolved tree moment (Update u) = Wrote (update_writes tree moment u)
resolved tree moment (Tx t) = compared tree moment t

-- the same on the tree after these writes
abbrev pub resolved_after : Rows Scalar → List Basic → ℕ → Op → Outcome
resolved_after tree before moment op = resolved (applied tree before) moment op

-- the path that an operation names
abbrev pub named_path : Op → Path
named_path (Set p) = p.0
named_path (Update u) = u.path
named_path (Tx t) = t.path

abbrev pub kept_of : Outcome → Kept
kept_of (Wrote writes) = kept.Wrote
kept_of (Stale held) = kept.Stale held

-- a stale transaction writes nothing
abbrev pub writes_in : Outcome → List Basic
writes_in (Wrote writes) = writes
writes_in (Stale held) = []
