-- Runs of the server by its sum alone, by computation.
use Rattle.std.proofs.Common.{refl, ◌≡◌, ℕ, List, [], ◌∷◌, ◌++◌, true, Some, None, codes, pos}
use Rattle.pres_tree.specs.declared.scalar.Scalar.{Scalar}
use Rattle.pres_tree.specs.declared.scalar.Scalar.TheVariants as scalar
use Rattle.pres_tree.specs.Paths.{Path}
use Rattle.pres_tree.specs.Rows.{Rows}
use Rattle.pres_write.specs.declared.draft.DraftLeaf.TheVariants.{Fixed, Timestamp}
use Rattle.pres_write.specs.declared.op.Op.{Op}
use Rattle.pres_write.specs.declared.op.Op.TheVariants as op
use Rattle.pres_write.specs.declared.unconditional.Unconditional.{Unconditional}
use Rattle.pres_write.specs.declared.unconditional.Unconditional.TheVariants as unconditional
use Rattle.pres_write.specs.declared.outcome.Outcome.{Outcome}
use Rattle.pres_write.specs.declared.outcome.Outcome.TheVariants.{Wrote}
use Rattle.pres_write.specs.declared.outcome.Kept.TheVariants as kept
use Rattle.pres_write.specs.Basics.{basic}
use Rattle.pres_ids.specs.declared.id.Stamp.{Stamp}
use Rattle.pres_ids.specs.declared.id.SessionId.{SessionId}
use Rattle.pres_ids.specs.declared.id.Why.TheVariants as why
use Rattle.pres_wire.specs.declared.up.Up.TheVariants as up
use Rattle.pres_wire.specs.declared.down.Down.{Down}
use Rattle.pres_wire.specs.declared.down.Down.TheVariants.{Welcome, Reply, Armed, Snap, Push, Gone}
use Rattle.pres_retry.specs.Tables.{row}
use Rattle.pres_log.specs.declared.entry.Batch.{Batch}
use Rattle.pres_log.specs.declared.entry.Entry.{Entry}
use Rattle.pres_log.specs.declared.entry.Entry.TheVariants as entry
use Rattle.pres_log.specs.declared.fault.Fault.TheVariants as fault
use Rattle.pres_log.specs.Logs.{Log}
use Rattle.pres_server.specs.declared.input.Input.{Input}
use Rattle.pres_server.specs.declared.input.Input.TheVariants as input
use Rattle.pres_server.specs.Turns.{Decision, refused, quiet, makes}
use Rattle.pres_server.specs.Sums.{Sum, nothing, began, sum_from}
use Rattle.pres_server.specs.SumAnswers.{answers_by}
use Rattle.pres_server.specs.SumStates.{SumState}
use Rattle.pres_server.specs.SumTurns.{moment_by, turn_by, sum_after_turn}
use Rattle.pres_server.specs.Histories.{History, LeadsTo, whole, answers_in}
use Rattle.pres_server.proofs.Turning.{turn_follows}
use Rattle.pres_server.proofs.SumServers.{nothing_holds}
use Rattle.pres_history.proofs.Histories.{history_grows}

abbrev alice : ℕ → SessionId
alice attempt = record { client = codes "alice"; incarnation = 1; attempt = attempt }

abbrev bob : SessionId
bob = record { client = codes "bob"; incarnation = 1; attempt = 1 }

abbrev at_a : Path
at_a = codes "a" ∷ []

-- the number at the path, and nothing else
abbrev number_at : Path → ℕ → Rows Scalar
number_at path n = (path, scalar.Int (pos n)) ∷ []

abbrev set_a : ℕ → Op
set_a n = op.Set (at_a, ([], Fixed (scalar.Int (pos n))) ∷ [])

abbrev wrote_a : ℕ → Outcome
wrote_a n = Wrote (basic at_a (([], scalar.Int (pos n)) ∷ []) ∷ [])

-- a server with the sum, whose clients were not heard of
abbrev state : Sum → SumState
state sum = record { sum = sum; heard = [] }

-- the sum after an input, whose batch is committed
abbrev next : Sum → ℕ → Input → Sum
next sum now i = sum_after_turn sum (moment_by sum now) (turn_by (state sum) i now)

-- what the input is answered
abbrev made : Sum → Decision → List Down
made sum (makes es) = answers_by sum es
made sum other = []

abbrev told : Sum → ℕ → Input → List Down
told sum now i = made sum (turn_by (state sum) i now)

-- ---- superseded session

abbrev opened_once : Sum
opened_once = next nothing 1000 (input.Up (up.Hello (alice 1)))

abbrev opened_twice : Sum
opened_twice = next opened_once 2000 (input.Up (up.Hello (alice 2)))

abbrev end_and_open : List Entry
end_and_open = entry.Ended (alice 1) None why.Superseded [] ∷ entry.Open (alice 2) ∷ []

first_session : turn_by (state nothing) (input.Up (up.Hello (alice 1))) 1000 ≡ makes (entry.Open (alice 1) ∷ [])
first_session = refl

newer_session : turn_by (state opened_once) (input.Up (up.Hello (alice 2))) 2000 ≡ makes end_and_open
newer_session = refl

newer_session_answers : answers_by opened_once end_and_open ≡ Gone (alice 1) 1 2 why.Superseded ∷ Welcome (alice 2) 3 0 ∷ []
newer_session_answers = refl

newer_session_sum : opened_twice ≡ record {
  batches = 2;
  moment = 2000;
  number = 3;
  tree = [];
  rows = [];
  gone = [];
  sessions = (codes "alice", began (record { incarnation = 1; attempt = 2 })) ∷ [];
  listeners = [];
}
newer_session_sum = refl

late_message : turn_by (state opened_twice) (input.Up (up.Op (alice 1) 1 1 (set_a 1))) 3000 ≡ refused fault.Session
late_message = refl

same_write : turn_by (state opened_twice) (input.Up (up.Op (alice 2) 1 1 (set_a 1))) 3000 ≡ makes (entry.Op (alice 2) 1 1 (set_a 1) (wrote_a 1) ∷ [])
same_write = refl

-- ---- lost reply, resent write

abbrev wrote_once : Sum
wrote_once = next opened_once 1001 (input.Up (up.Op (alice 1) 1 1 (set_a 1)))

abbrev lost_once : Sum
lost_once = next wrote_once 1002 (input.Lost (alice 1))

abbrev came_back : Sum
came_back = next lost_once 1003 (input.Up (up.Hello (alice 2)))

lost_sum : lost_once ≡ record {
  batches = 3;
  moment = 1002;
  number = 3;
  tree = number_at at_a 1;
  rows = (codes "alice", row 2 kept.Wrote ∷ []) ∷ [];
  gone = (codes "alice", record { incarnation = 1; attempt = 1 }) ∷ [];
  sessions = [];
  listeners = [];
}
lost_sum = refl

welcome_again : told lost_once 1003 (input.Up (up.Hello (alice 2))) ≡ Welcome (alice 2) 4 1 ∷ []
welcome_again = refl

resent_write : turn_by (state came_back) (input.Up (up.Op (alice 2) 1 1 (set_a 1))) 1004 ≡ makes (entry.Again (alice 2) 1 1 ∷ [])
resent_write = refl

resent_answer : told came_back 1004 (input.Up (up.Op (alice 2) 1 1 (set_a 1))) ≡ Reply (alice 2) 1 5 1 1 2 kept.Wrote ∷ []
resent_answer = refl

tree_of_one_write : came_back.tree ≡ number_at at_a 1
tree_of_one_write = refl

-- ---- message order faults

repeated_hello : turn_by (state opened_once) (input.Up (up.Hello (alice 1))) 1001 ≡ refused (fault.Old (record { incarnation = 1; attempt = 1 }))
repeated_hello = refl

gap_of_messages : turn_by (state opened_once) (input.Up (up.Bye (alice 1) 2)) 1001 ≡ refused fault.Order
gap_of_messages = refl

gap_of_writes : turn_by (state opened_once) (input.Up (up.Op (alice 1) 1 2 (set_a 1))) 1001 ≡ refused fault.Order
gap_of_writes = refl

repeated_message : turn_by (state wrote_once) (input.Up (up.Op (alice 1) 1 1 (set_a 1))) 1002 ≡ quiet
repeated_message = refl

-- ---- ends

goodbye : turn_by (state opened_once) (input.Up (up.Bye (alice 1) 1)) 1001 ≡ makes (entry.Ended (alice 1) (Some 1) why.Bye [] ∷ [])
goodbye = refl

lost_twice : turn_by (state (next opened_once 1001 (input.Lost (alice 1)))) (input.Slow (alice 1)) 1002 ≡ quiet
lost_twice = refl

started_again : turn_by (state opened_once) (input.Restart (codes "alice")) 5000 ≡ makes (entry.Ended (alice 1) None why.Restart [] ∷ [])
started_again = refl

stranger : turn_by (state opened_once) (input.Restart (codes "bob")) 5000 ≡ quiet
stranger = refl

-- ---- a Push, also where the value stays as it was, and then the Reply

abbrev at_b : Path
at_b = codes "a" ∷ codes "b" ∷ []

abbrev listens_once : Sum
listens_once = next opened_once 1001 (input.Up (up.On (alice 1) 1 at_b))

abbrev sets_five : Sum
sets_five = next listens_once 1002 (input.Up (up.Op (alice 1) 2 1 (set_a 5)))

empty_snap : told opened_once 1001 (input.Up (up.On (alice 1) 1 at_b)) ≡ Snap (alice 1) 1 2 1 at_b [] ∷ []
empty_snap = refl

push_and_reply : told listens_once 1002 (input.Up (up.Op (alice 1) 2 1 (set_a 5)))
    ≡ Push (alice 1) 2 3 (record { path = at_b; value = [] } ∷ []) ∷ Reply (alice 1) 3 3 2 1 3 kept.Wrote ∷ []
push_and_reply = refl

same_value : told sets_five 1003 (input.Up (up.Op (alice 1) 3 2 (set_a 5)))
    ≡ Push (alice 1) 4 4 (record { path = at_b; value = [] } ∷ []) ∷ Reply (alice 1) 5 4 3 2 4 kept.Wrote ∷ []
same_value = refl

-- ---- presence

abbrev last : Path
last = codes "last" ∷ []

abbrev online : Path
online = codes "online" ∷ []

abbrev both_open : Sum
both_open = next opened_once 1000 (input.Up (up.Hello bob))

abbrev bob_listens : Sum
bob_listens = next (next both_open 1000 (input.Up (up.On bob 1 last))) 1000 (input.Up (up.On bob 2 online))

abbrev at_the_end : Unconditional
at_the_end = unconditional.Update (record { path = []; places = (last, ([], Timestamp) ∷ []) ∷ (online, []) ∷ [] })

abbrev left_update : Sum
left_update = next bob_listens 1000 (input.Up (up.Left (alice 1) 1 at_the_end))

abbrev set_online : Op
set_online = op.Set (online, ([], Fixed (scalar.Bool true)) ∷ [])

abbrev is_online : Sum
is_online = next left_update 2000 (input.Up (up.Op (alice 1) 2 1 set_online))

bob_welcome : told opened_once 1000 (input.Up (up.Hello bob)) ≡ Welcome bob 2 0 ∷ []
bob_welcome = refl

bob_snaps : told both_open 1000 (input.Up (up.On bob 1 last)) ++ told (next both_open 1000 (input.Up (up.On bob 1 last))) 1000 (input.Up (up.On bob 2 online))
    ≡ Snap bob 1 3 1 last [] ∷ Snap bob 2 4 2 online [] ∷ []
bob_snaps = refl

armed : told bob_listens 1000 (input.Up (up.Left (alice 1) 1 at_the_end)) ≡ Armed (alice 1) 1 5 1 ∷ []
armed = refl

goes_online : told left_update 2000 (input.Up (up.Op (alice 1) 2 1 set_online))
    ≡ Push bob 3 6 (record { path = online; value = ([], scalar.Bool true) ∷ [] } ∷ []) ∷ Reply (alice 1) 2 6 2 1 6 kept.Wrote ∷ []
goes_online = refl

goes_offline : turn_by (state is_online) (input.Lost (alice 1)) 9000
    ≡ makes (entry.Ended (alice 1) None why.Lost (basic last (([], scalar.Int (pos 9000)) ∷ []) ∷ basic online [] ∷ []) ∷ [])
goes_offline = refl

told_offline : told is_online 9000 (input.Lost (alice 1))
    ≡ Push bob 4 7 (record { path = last; value = ([], scalar.Int (pos 9000)) ∷ [] } ∷ record { path = online; value = [] } ∷ []) ∷ Gone (alice 1) 3 7 why.Lost ∷ []
told_offline = refl

-- ---- sums that no legal log has are served as they say

-- a tree that nobody wrote
abbrev unwritten : Sum
unwritten = record { batches = 0; moment = 0; number = 0; tree = number_at at_a 1; rows = []; gone = []; sessions = []; listeners = [] }

unwritten_snap : told (next unwritten 1000 (input.Up (up.Hello (alice 1)))) 1001 (input.Up (up.On (alice 1) 1 at_a)) ≡ Snap (alice 1) 1 2 1 at_a (([], scalar.Int (pos 1)) ∷ []) ∷ []
unwritten_snap = refl

-- two clients whose writes have one number
abbrev stamp : Stamp
stamp = record { incarnation = 1; attempt = 1 }

abbrev shared : Sum
shared = record {
  batches = 1;
  moment = 1000;
  number = 1;
  tree = [];
  rows = (codes "alice", row 1 kept.Wrote ∷ []) ∷ (codes "bob", row 1 kept.Wrote ∷ []) ∷ [];
  gone = (codes "alice", stamp) ∷ (codes "bob", stamp) ∷ [];
  sessions = [];
  listeners = [];
}

shared_old : turn_by (state shared) (input.Up (up.Hello bob)) 1001 ≡ refused (fault.Old stamp)
shared_old = refl

shared_welcome : told shared 1001 (input.Up (up.Hello (alice 2))) ≡ Welcome (alice 2) 2 1 ∷ []
shared_welcome = refl

shared_answer : told (next shared 1001 (input.Up (up.Hello (alice 2)))) 1002 (input.Up (up.Op (alice 2) 1 1 (set_a 1))) ≡ Reply (alice 2) 1 3 1 1 1 kept.Wrote ∷ []
shared_answer = refl

-- a session that sent as many messages as there are entries, of which one would be its Open
abbrev crowded : Sum
crowded = record {
  batches = 2;
  moment = 1000;
  number = 2;
  tree = [];
  rows = [];
  gone = [];
  sessions = (codes "alice", record { stamp = stamp; count = 2; sent = 2; plan = [] }) ∷ [];
  listeners = [];
}

crowded_again : turn_by (state crowded) (input.Up (up.Off (alice 1) 2 at_a)) 1001 ≡ quiet
crowded_again = refl

crowded_gap : turn_by (state crowded) (input.Up (up.Off (alice 1) 4 at_a)) 1001 ≡ refused fault.Order
crowded_gap = refl

crowded_answer : told crowded 1001 (input.Up (up.Op (alice 1) 3 1 (set_a 1))) ≡ Reply (alice 1) 3 3 3 1 3 kept.Wrote ∷ []
crowded_answer = refl

-- ---- histories

abbrev opening : Batch
opening = record { first = 1; moment = 1000; entries = entry.Open (alice 1) ∷ [] }

abbrev writing : Batch
writing = record { first = 2; moment = 1001; entries = entry.Op (alice 1) 1 1 (set_a 1) (wrote_a 1) ∷ [] }

abbrev losing : Batch
losing = record { first = 3; moment = 1002; entries = entry.Ended (alice 1) None why.Lost [] ∷ [] }

abbrev three : Log
three = opening ∷ writing ∷ losing ∷ []

whole_sum : sum_from nothing three ≡ lost_once
whole_sum = refl

whole_answers : answers_in (whole three) ≡ Welcome (alice 1) 1 0 ∷ Reply (alice 1) 1 2 1 1 2 kept.Wrote ∷ Gone (alice 1) 2 3 why.Lost ∷ []
whole_answers = refl

-- the same sum, from the sum after the write
abbrev since_write : History
since_write = record { base = wrote_once; log = losing ∷ [] }

since_write_sum : sum_from since_write.base since_write.log ≡ lost_once
since_write_sum = refl

since_write_answers : answers_in since_write ≡ Gone (alice 1) 2 3 why.Lost ∷ []
since_write_answers = refl

-- from a sum that no legal log has
abbrev since_crowded : History
since_crowded = record {
  base = crowded;
  log = record { first = 3; moment = 1001; entries = entry.Op (alice 1) 3 1 (set_a 1) (wrote_a 1) ∷ [] } ∷ record { first = 4; moment = 1002; entries = entry.Ended (alice 1) None why.Lost [] ∷ [] } ∷ [];
}

since_crowded_sum : sum_from since_crowded.base since_crowded.log ≡ record {
  batches = 4;
  moment = 1002;
  number = 4;
  tree = number_at at_a 1;
  rows = (codes "alice", row 3 kept.Wrote ∷ []) ∷ [];
  gone = (codes "alice", stamp) ∷ [];
  sessions = [];
  listeners = [];
}
since_crowded_sum = refl

since_crowded_answers : answers_in since_crowded ≡ Reply (alice 1) 3 3 3 1 3 kept.Wrote ∷ Gone (alice 1) 4 4 why.Lost ∷ []
since_crowded_answers = refl

-- what turns make leads from nothing to the sum
leads_nowhere : LeadsTo (whole []) nothing
leads_nowhere = record { base = nothing_holds; legal = tt; there = refl }

leads_to_opened : LeadsTo (whole (opening ∷ [])) opened_once
leads_to_opened = (history_grows (whole []) nothing opening leads_nowhere (turn_follows (state nothing) (input.Up (up.Hello (alice 1))) 1000 nothing_holds (opening.entries) refl)).leads
