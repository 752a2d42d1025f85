-- What a turn decides, and what the calls answer to it. The limits are ours.
use Rattle.std.specs.Prelude.{ℕ, List, [], ◌∷◌, if◌then◌else◌, nat_le, ◌≡◌, ◌⊎◌, Bool, true, false, Option, Result, MatchResult}
use Rattle.pres_tree.specs.declared.scalar.Scalar.{Scalar}
use Rattle.pres_tree.specs.Paths.{Path}
use Rattle.pres_tree.specs.Rows.{Rows}
use Rattle.pres_write.specs.declared.op.Op.{Op}
use Rattle.pres_write.specs.Outcomes.{resolved}
use Rattle.pres_ids.specs.declared.id.SessionId.{SessionId}
use Rattle.pres_wire.specs.declared.down.Limit.TheVariants as limit
use Rattle.pres_plan.specs.Plans.{most_rows}
use Rattle.pres_fan.specs.Listeners.{most_paths}
use Rattle.pres_retry.specs.Verdicts.{WriteStatus, fresh, again, gap}
use Rattle.pres_log.specs.declared.entry.Entry.{Entry}
use Rattle.pres_log.specs.declared.entry.Entry.TheVariants as entry
use Rattle.pres_log.specs.declared.fault.Fault.{Fault}
use Rattle.pres_log.specs.declared.fault.Fault.TheVariants as fault
use Rattle.pres_server.specs.declared.turn.TurnEffect.{TurnEffect}
use Rattle.pres_server.specs.declared.turn.TurnEffect.TheVariants as step

-- ---- what a message asks for: entries, nothing, or a refusal

-- what a turn does
pub data Decision : Type 0 where
  refused : Fault → Decision
  quiet : Decision
  makes : List Entry → Decision

-- the entry of message q of the session, or a denial where this many rows would then be left
abbrev pub within_rows : ℕ → Entry → SessionId → ℕ → Decision
within_rows rows e s q = makes ((if nat_le rows most_rows then e else entry.Denied s q limit.Plan) ∷ [])

-- the On with message q of the session, or a denial where the session would then listen to this many paths
abbrev pub within_paths : ℕ → SessionId → ℕ → Path → Decision
within_paths paths s q path = makes ((if nat_le paths most_paths then entry.On s q path else entry.Denied s q limit.Listens) ∷ [])

-- what write n of a client makes, by what it is
abbrev pub op_by : WriteStatus → Rows Scalar → ℕ → SessionId → ℕ → ℕ → Op → Decision
op_by fresh tree moment s q n op = makes (entry.Op s q n op (resolved tree moment op) ∷ [])
op_by (again row) tree moment s q n op = makes (entry.Again s q n ∷ [])
op_by gap tree moment s q n op = refused fault.Order

-- ---- what the calls answer

-- something is to be made
abbrev pub is_made : Decision → Bool
is_made (makes es) = true
is_made _ = false

-- the refusal that an input meets, or lack of memory where it would make something
abbrev pub IsRefusal : Decision → Fault → Type 0
IsRefusal decision f = (decision ≡ refused f) ⊎ ((f ≡ fault.Busy) × (is_made decision ≡ true))

-- the entries are what is to be made
abbrev pub Makes : Decision → Result (List Entry) Fault → Type 0
Makes decision result = MatchResult result (λ es. decision ≡ makes es) (IsRefusal decision)

-- the step is the decision on an input, which is a message of the session, or of none
abbrev pub IsEffect : Option SessionId → Decision → TurnEffect → Type 0
IsEffect from decision (step.Makes es) = decision ≡ makes es
IsEffect from decision (step.Quiet heard) = (decision ≡ quiet) × (heard ≡ from)

-- the step that an input asks for, or its refusal
abbrev pub Decides : Option SessionId → Decision → Result TurnEffect Fault → Type 0
Decides from decision result = MatchResult result (IsEffect from decision) (IsRefusal decision)
