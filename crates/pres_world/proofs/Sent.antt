-- What a turn makes was made of the message that came.
use Rattle.std.proofs.Common.{refl, subst, ◌≡◌, ◌+◌, ◌-◌, ◌^◌, ◌==◌, nat_lt, nat_le, ℕ, List, [], ◌∷◌, ◌++◌, map, length, Bool, true, false, cond, Option, Some, None, unwrap_or}
use Rattle.std.specs.List.{AllByRecursion}
use Rattle.pres_ids.specs.declared.id.SessionId.{SessionId}
use Rattle.pres_ids.specs.declared.id.Why.{Why}
use Rattle.pres_ids.specs.declared.id.Why.TheVariants as why
use Rattle.pres_ids.specs.Ids.{ClientId, stamp_of}
use Rattle.pres_tree.specs.declared.scalar.Scalar.{Scalar}
use Rattle.pres_tree.specs.Rows.{Rows}
use Rattle.pres_write.specs.declared.op.Op.{Op}
use Rattle.pres_write.specs.Unconditionals.{puts_of}
use Rattle.pres_retry.specs.Verdicts.{verdict, WriteStatus, fresh, again, gap}
use Rattle.pres_plan.specs.Plans.{most_rows}
use Rattle.pres_fan.specs.Listeners.{most_paths}
use Rattle.pres_wire.specs.declared.up.Up.{Up}
use Rattle.pres_wire.specs.declared.up.Up.TheVariants as up
use Rattle.pres_wire.specs.declared.down.Limit.TheVariants as limit
use Rattle.pres_log.specs.declared.entry.Entry.{Entry}
use Rattle.pres_log.specs.declared.entry.Entry.TheVariants as entry
use Rattle.pres_log.specs.declared.fault.Fault.TheVariants as fault
use Rattle.pres_log.specs.Logs.{tree, entries}
use Rattle.pres_server.specs.declared.input.Input.{Input}
use Rattle.pres_server.specs.declared.input.Input.TheVariants as input
use Rattle.pres_history.specs.ServerStates.{ServerState}
use Rattle.pres_server.specs.ServerStates.{late_client}
use Rattle.pres_history.specs.Listening.{listened}
use Rattle.pres_history.specs.Outcomes.{rows_for}
use Rattle.pres_history.specs.Sessions.{is_open, is_newest, count, last_of, open_sessions, open_sessions_of}
use Rattle.pres_history.specs.SessionPlans.{plan}
use Rattle.pres_server.specs.Turns.{Decision, refused, quiet, makes, within_rows, op_by}
use Rattle.pres_history.specs.Turns.{moment_of, end_of, opening, ends_if_open, ends_first, ends_late, in_order, if_open, leaves, listens, message, limited, turn}
use Rattle.pres_world.specs.Safe.{WasSent, CameFromMessage}
use Rattle.pres_world.proofs.Backed.{all_front, item_front}

made_within : (bs : List Entry) (d : Decision) (es : List Entry) → limited bs d ≡ makes es → d ≡ makes es
made_within bs quiet es e = e
made_within bs (refused f) es e = e
made_within bs (makes xs) es e = by (nat_lt (2 ^ 52 - 1) (length (bs ++ xs) + length (open_sessions (bs ++ xs)))) (nat_lt 1024 (length (open_sessions (bs ++ xs)))) e where
  by : (a b : Bool) → cond a (refused fault.Spent) (cond b (refused fault.Full) (makes xs)) ≡ makes es → makes xs ≡ makes es
  by true b h = absurd (cc h)
  by false true h = absurd (cc h)
  by false false h = h

-- each entry that is made was made of a message that was sent
abbrev MakesSent : List Up → Decision → Type 0
MakesSent ups (makes es) = AllByRecursion (CameFromMessage ups) es
MakesSent ups quiet = Unit {0}
MakesSent ups (refused f) = Unit {0}

opened_sent : (ups : List Up) (before : List Entry) (s : SessionId) (d : Decision) → MakesSent ups d → MakesSent ups (if_open before s d)
opened_sent ups before s d h = by (is_open s before) where
  by : (b : Bool) → MakesSent ups (cond b d (refused fault.Session))
  by true = h
  by false = tt

ordered_sent : (ups : List Up) (before : List Entry) (s : SessionId) (q : ℕ) (d : Decision) → MakesSent ups d → MakesSent ups (in_order before s q d)
ordered_sent ups before s q d h = by (nat_le q (count s before)) (q == count s before + 1) where
  by : (a b : Bool) → MakesSent ups (cond a quiet (cond b d (refused fault.Order)))
  by true b = tt
  by false true = h
  by false false = tt

said_sent : (ups : List Up) (before : List Entry) (s : SessionId) (q : ℕ) (d : Decision) → MakesSent ups d → MakesSent ups (if_open before s (in_order before s q d))
said_sent ups before s q d h = opened_sent ups before s (in_order before s q d) (ordered_sent ups before s q d h)

op_sent : (ups : List Up) (known : WriteStatus) (t : Rows Scalar) (m : ℕ) (s : SessionId) (q n : ℕ) (op : Op) → WasSent ups (up.Op s q n op) → MakesSent ups (op_by known t m s q n op)
op_sent ups fresh t m s q n op h = (h, tt)
op_sent ups (again row) t m s q n op h = ((op, h), tt)
op_sent ups gap t m s q n op h = tt

-- ends that no client asked for
ended_sent : (ups : List Up) (before : List Entry) (m : ℕ) (w : Why) (ss : List SessionId) → AllByRecursion (CameFromMessage ups) (map (end_of before m None w) ss)
ended_sent ups before m w [] = tt
ended_sent ups before m w (s ∷ ss) = (tt, ended_sent ups before m w ss)

rows_sent : (ups : List Up) (rows : ℕ) (e : Entry) (s : SessionId) (q : ℕ) (u : Up) → CameFromMessage ups e → CameFromMessage ups (entry.Denied s q limit.Plan) → MakesSent ups (within_rows rows e s q)
rows_sent ups rows e s q u h k = by (nat_le rows most_rows) where
  by : (b : Bool) → MakesSent ups (makes ((cond b e (entry.Denied s q limit.Plan)) ∷ []))
  by true = (h, tt)
  by false = (k, tt)

message_sent : (ups : List Up) (before : List Entry) (m : ℕ) (u : Up) → WasSent ups u → MakesSent ups (message before m u)
message_sent ups before m (up.Hello s) h = by (is_newest s before) where
  by : (b : Bool) → MakesSent ups (cond b (opening before m s) (refused (fault.Old (unwrap_or (last_of s.client before) (stamp_of s)))))
  by true = all_front (CameFromMessage ups) (map (end_of before m None why.Superseded) (open_sessions_of s.client before)) (entry.Open s ∷ []) (ended_sent ups before m why.Superseded (open_sessions_of s.client before)) (h, tt)
  by false = tt
message_sent ups before m (up.Op s q n op) h = said_sent ups before s q (op_by (verdict n (rows_for s.client before)) (tree before) m s q n op) (op_sent ups (verdict n (rows_for s.client before)) (tree before) m s q n op h)
message_sent ups before m (up.Left s q op) h = said_sent ups before s q (leaves before (entry.Left s q (puts_of op)) s q) (rows_sent ups (length (plan s (before ++ entry.Left s q (puts_of op) ∷ []))) (entry.Left s q (puts_of op)) s q (up.Left s q op) (op, h, refl) (up.Left s q op, h, refl, refl))
message_sent ups before m (up.Cancel s q path) h = said_sent ups before s q (leaves before (entry.Cancelled s q path) s q) (rows_sent ups (length (plan s (before ++ entry.Cancelled s q path ∷ []))) (entry.Cancelled s q path) s q (up.Cancel s q path) h (up.Cancel s q path, h, refl, refl))
message_sent ups before m (up.Bye s q) h = said_sent ups before s q (makes (end_of before m (Some q) why.Bye s ∷ [])) (h, tt)
message_sent ups before m (up.Beat s) h = opened_sent ups before s quiet tt
message_sent ups before m (up.On s q path) h = said_sent ups before s q (listens before s q path) (by (nat_le (length (listened s (before ++ entry.On s q path ∷ []))) most_paths)) where
  by : (b : Bool) → MakesSent ups (makes ((cond b (entry.On s q path) (entry.Denied s q limit.Listens)) ∷ []))
  by true = (h, tt)
  by false = ((up.On s q path, h, refl, refl), tt)
message_sent ups before m (up.Off s q path) h = said_sent ups before s q (makes (entry.Off s q path ∷ [])) (h, tt)

first_sent : (ups : List Up) (before : List Entry) (m : ℕ) (w : Why) (ss : List SessionId) → MakesSent ups (ends_first before m w ss)
first_sent ups before m w [] = tt
first_sent ups before m w (s ∷ ss) = (tt, tt)

open_sent : (ups : List Up) (before : List Entry) (m : ℕ) (w : Why) (s : SessionId) → MakesSent ups (ends_if_open before m w s)
open_sent ups before m w s = by (is_open s before) where
  by : (b : Bool) → MakesSent ups (cond b (makes (end_of before m None w s ∷ [])) quiet)
  by true = (tt, tt)
  by false = tt

late_sent : (ups : List Up) (before : List Entry) (m : ℕ) (late : Option ClientId) → MakesSent ups (ends_late before m late)
late_sent ups before m None = tt
late_sent ups before m (Some c) = first_sent ups before m why.Lease (open_sessions_of c before)

-- what comes in was sent, where it is a message
abbrev pub ComesFrom : List Up → Input → Type 0
ComesFrom ups (input.Up u) = WasSent ups u
ComesFrom ups _ = Unit {0}

pub made_sent : (ups : List Up) (s : ServerState) (i : Input) (now : ℕ) (es : List Entry) → ComesFrom ups i → turn s i now ≡ makes es → AllByRecursion (CameFromMessage ups) es
made_sent ups s (input.Up u) now es h k = let m = moment_of s.log now in subst (MakesSent ups) (made_within (entries s.log) (message (entries s.log) m u) es k) (message_sent ups (entries s.log) m u h)
made_sent ups s (input.Lost t) now es h k = let m = moment_of s.log now in subst (MakesSent ups) (made_within (entries s.log) (ends_if_open (entries s.log) m why.Lost t) es k) (open_sent ups (entries s.log) m why.Lost t)
made_sent ups s (input.Slow t) now es h k = let m = moment_of s.log now in subst (MakesSent ups) (made_within (entries s.log) (ends_if_open (entries s.log) m why.Slow t) es k) (open_sent ups (entries s.log) m why.Slow t)
made_sent ups s (input.Restart c) now es h k = let m = moment_of s.log now in subst (MakesSent ups) (made_within (entries s.log) (ends_first (entries s.log) m why.Restart (open_sessions_of c (entries s.log))) es k) (first_sent ups (entries s.log) m why.Restart (open_sessions_of c (entries s.log)))
made_sent ups s input.Tick now es h k = let m = moment_of s.log now in subst (MakesSent ups) (made_within (entries s.log) (ends_late (entries s.log) m (late_client m s.heard)) es k) (late_sent ups (entries s.log) m (late_client m s.heard))

packet_front : (ups more : List Up) (m : Up) → WasSent ups m → WasSent (ups ++ more) m
packet_front ups more m h = (h.0, item_front ups more h.0 m h.1)

-- what was sent stays so
pub sent_front : (ups more : List Up) (e : Entry) → CameFromMessage ups e → CameFromMessage (ups ++ more) e
sent_front ups more (entry.Open s) h = packet_front ups more _ h
sent_front ups more (entry.Op s q n op outcome) h = packet_front ups more _ h
sent_front ups more (entry.Again s q n) h = (h.0, packet_front ups more _ h.1)
sent_front ups more (entry.Left s q placements) h = (h.0, packet_front ups more _ h.1, h.2)
sent_front ups more (entry.Cancelled s q p) h = packet_front ups more _ h
sent_front ups more (entry.Denied s q why) h = (h.0, packet_front ups more _ h.1, h.2, h.3)
sent_front ups more (entry.On s q p) h = packet_front ups more _ h
sent_front ups more (entry.Off s q p) h = packet_front ups more _ h
sent_front ups more (entry.Ended s None why rows) h = tt
sent_front ups more (entry.Ended s (Some q) why rows) h = packet_front ups more _ h
