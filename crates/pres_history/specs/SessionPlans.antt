-- The plan of a session, computed from the log: the result of its puts and cancels, and what is due at its end. Puts
-- and cancels are those of onDisconnect of Firebase Realtime Database.
use Rattle.std.specs.Prelude.{ℕ, List, []}
use Rattle.std.specs.List.{flat_map}
use Rattle.pres_write.specs.declared.basic.Basic.{Basic}
use Rattle.pres_ids.specs.declared.id.SessionId.{SessionId}
use Rattle.pres_plan.specs.declared.row.PlanRow.{PlanRow}
use Rattle.pres_plan.specs.Plans.{puts, cancels, plan_of, due}
use Rattle.pres_log.specs.declared.entry.Entry.{Entry}
use Rattle.pres_log.specs.declared.entry.Entry.TheVariants as entry
use Rattle.pres_log.specs.Logs.{tree}
use Rattle.pres_history.specs.Sessions.{own}

-- the puts and cancels of an entry
abbrev pub actions_in : Entry → List PlanRow
actions_in (entry.Left s q places) = puts q places
actions_in (entry.Cancelled s q path) = cancels q path
actions_in _ = []

-- those of a session, in order
abbrev pub actions : SessionId → List Entry → List PlanRow
actions s entries = flat_map actions_in (own s entries)

abbrev pub plan : SessionId → List Entry → List PlanRow
plan s entries = plan_of (actions s entries)

-- what is due where the session ends after these entries, at the moment
abbrev pub due_at : List Entry → ℕ → SessionId → List Basic
due_at before moment s = due (tree before) moment (plan s before)
