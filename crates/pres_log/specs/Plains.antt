-- The log of one writer, by its effect.
use Rattle.std.specs.Prelude.{◌+◌, ℕ, [], max}
use Rattle.pres_tree.specs.declared.scalar.Scalar.{Scalar}
use Rattle.pres_tree.specs.Rows.{Rows}
use Rattle.pres_ids.specs.Numbers.{greatest_number}
use Rattle.pres_write.specs.declared.op.Op.{Op}
use Rattle.pres_write.specs.declared.outcome.Outcome.{Outcome}
use Rattle.pres_write.specs.declared.outcome.Kept.{Kept}
use Rattle.pres_write.specs.Basics.{applied}
use Rattle.pres_write.specs.Outcomes.{resolved, kept_of, writes_in}

-- the number of operations, the greatest moment, and the tree after all writes
pub record PlainState : Type 0 where
  pub number : ℕ
  pub moment : ℕ
  pub tree : Rows Scalar

-- the greatest number
abbrev pub last_number : ℕ
last_number = greatest_number

abbrev pub fresh : PlainState
fresh = record { number = 0; moment = 0; tree = [] }

-- the outcome of an operation: it is resolved at a moment that never decreases
abbrev pub outcome_after : PlainState → Op → ℕ → Outcome
outcome_after s op now = resolved s.tree (max s.moment now) op

abbrev pub kept_after : PlainState → Op → ℕ → Kept
kept_after s op now = kept_of (outcome_after s op now)

abbrev pub state_after : PlainState → Op → ℕ → PlainState
state_after s op now = record { number = s.number + 1; moment = max s.moment now; tree = applied s.tree (writes_in (outcome_after s op now)) }
