-- Runs of the server, by computation.
use Rattle.std.proofs.Common.{refl, ◌≡◌, ℕ, List, [], ◌∷◌, Some, None, codes, pos}
use Rattle.pres_tree.specs.declared.scalar.Scalar.TheVariants.{Int}
use Rattle.pres_tree.specs.Paths.{Path}
use Rattle.pres_write.specs.declared.draft.DraftLeaf.TheVariants.{Fixed}
use Rattle.pres_write.specs.declared.op.Op.{Op}
use Rattle.pres_write.specs.declared.op.Op.TheVariants.{Set}
use Rattle.pres_write.specs.declared.outcome.Outcome.{Outcome}
use Rattle.pres_write.specs.declared.outcome.Outcome.TheVariants.{Wrote}
use Rattle.pres_write.specs.declared.outcome.Kept.TheVariants as kept
use Rattle.pres_write.specs.Basics.{basic}
use Rattle.pres_ids.specs.declared.id.SessionId.{SessionId}
use Rattle.pres_ids.specs.declared.id.Why.TheVariants as why
use Rattle.pres_wire.specs.declared.up.Up.TheVariants as up
use Rattle.pres_wire.specs.declared.down.Down.TheVariants.{Welcome, Reply, Gone}
use Rattle.pres_log.specs.declared.entry.Entry.{Entry}
use Rattle.pres_log.specs.declared.entry.Entry.TheVariants as entry
use Rattle.pres_log.specs.declared.fault.Fault.TheVariants as fault
use Rattle.pres_log.specs.Logs.{Log, entries, tree}
use Rattle.pres_server.specs.declared.input.Input.{Input}
use Rattle.pres_server.specs.declared.input.Input.TheVariants as input
use Rattle.pres_server.specs.Turns.{refused, quiet, makes}
use Rattle.pres_history.specs.ServerStates.{ServerState}
use Rattle.pres_history.specs.Turns.{moment_of, turn, log_after}
use Rattle.pres_history.specs.Streams.{answers}
use Rattle.pres_history.specs.LegalLog.{IsLegal}
use Rattle.pres_history.proofs.LegalLogs.{turn_is_legal}

abbrev alice : ℕ → SessionId
alice attempt = record { client = codes "alice"; incarnation = 1; attempt = attempt }

abbrev at_a : Path
at_a = codes "a" ∷ []

abbrev set_a : Op
set_a = Set (at_a, ([], Fixed (Int (pos 1))) ∷ [])

abbrev wrote_a : Outcome
wrote_a = Wrote (basic at_a (([], Int (pos 1)) ∷ []) ∷ [])

-- a server with the log, whose clients were not heard of
abbrev state : Log → ServerState
state log = record { log = log; heard = [] }

-- the log after an input, whose batch is committed
abbrev next : Log → ℕ → Input → Log
next log now i = log_after log (moment_of log now) (turn (state log) i now)

-- ---- superseded session

abbrev opened_once : Log
opened_once = next [] 1000 (input.Up (up.Hello (alice 1)))

abbrev opened_twice : Log
opened_twice = next opened_once 2000 (input.Up (up.Hello (alice 2)))

abbrev end_and_open : List Entry
end_and_open = entry.Ended (alice 1) None why.Superseded [] ∷ entry.Open (alice 2) ∷ []

newer_session : entries opened_twice ≡ entry.Open (alice 1) ∷ end_and_open
newer_session = refl

newer_session_answers : answers (entries opened_once) end_and_open ≡ Gone (alice 1) 1 2 why.Superseded ∷ Welcome (alice 2) 3 0 ∷ []
newer_session_answers = refl

late_message : turn (state opened_twice) (input.Up (up.Op (alice 1) 1 1 set_a)) 3000 ≡ refused fault.Session
late_message = refl

same_write : turn (state opened_twice) (input.Up (up.Op (alice 2) 1 1 set_a)) 3000 ≡ makes (entry.Op (alice 2) 1 1 set_a wrote_a ∷ [])
same_write = refl

-- ---- lost reply, resent write

abbrev wrote_once : Log
wrote_once = next opened_once 1001 (input.Up (up.Op (alice 1) 1 1 set_a))

abbrev came_back : Log
came_back = next (next wrote_once 1002 (input.Lost (alice 1))) 1003 (input.Up (up.Hello (alice 2)))

wrote_and_lost : entries came_back ≡ entry.Open (alice 1) ∷ entry.Op (alice 1) 1 1 set_a wrote_a ∷ entry.Ended (alice 1) None why.Lost [] ∷ entry.Open (alice 2) ∷ []
wrote_and_lost = refl

welcome_again : answers (entries (next wrote_once 1002 (input.Lost (alice 1)))) (entry.Open (alice 2) ∷ []) ≡ Welcome (alice 2) 4 1 ∷ []
welcome_again = refl

resent_write : turn (state came_back) (input.Up (up.Op (alice 2) 1 1 set_a)) 1004 ≡ makes (entry.Again (alice 2) 1 1 ∷ [])
resent_write = refl

resent_answer : answers (entries came_back) (entry.Again (alice 2) 1 1 ∷ []) ≡ Reply (alice 2) 1 5 1 1 2 kept.Wrote ∷ []
resent_answer = refl

tree_of_one_write : tree (entries came_back) ≡ (at_a, Int (pos 1)) ∷ []
tree_of_one_write = refl

-- ---- message order faults

repeated_hello : turn (state opened_once) (input.Up (up.Hello (alice 1))) 1001 ≡ refused (fault.Old (record { incarnation = 1; attempt = 1 }))
repeated_hello = refl

gap_of_messages : turn (state opened_once) (input.Up (up.Bye (alice 1) 2)) 1001 ≡ refused fault.Order
gap_of_messages = refl

gap_of_writes : turn (state opened_once) (input.Up (up.Op (alice 1) 1 2 set_a)) 1001 ≡ refused fault.Order
gap_of_writes = refl

repeated_message : turn (state wrote_once) (input.Up (up.Op (alice 1) 1 1 set_a)) 1002 ≡ quiet
repeated_message = refl

-- ---- ends

goodbye : turn (state opened_once) (input.Up (up.Bye (alice 1) 1)) 1001 ≡ makes (entry.Ended (alice 1) (Some 1) why.Bye [] ∷ [])
goodbye = refl

lost_twice : turn (state (next opened_once 1001 (input.Lost (alice 1)))) (input.Slow (alice 1)) 1002 ≡ quiet
lost_twice = refl

started_again : turn (state opened_once) (input.Restart (codes "alice")) 5000 ≡ makes (entry.Ended (alice 1) None why.Restart [] ∷ [])
started_again = refl

stranger : turn (state opened_once) (input.Restart (codes "bob")) 5000 ≡ quiet
stranger = refl

-- ---- legal logs

is_legal : IsLegal opened_twice
is_legal = turn_is_legal (state opened_once) (input.Up (up.Hello (alice 2))) 2000 (turn_is_legal (state []) (input.Up (up.Hello (alice 1))) 1000 tt)
