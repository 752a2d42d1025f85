-- Which entries stand for an accepted message, and which inputs are one.
use Rattle.std.specs.Prelude.{◌≡◌, ◌+◌, ℕ, Bool, true, false, List, filter, length, Some, is_some}
use Rattle.pres_ids.specs.declared.id.SessionId.{SessionId}
use Rattle.pres_ids.specs.Ids.{same_session}
use Rattle.pres_wire.specs.declared.up.Up.{Up}
use Rattle.pres_wire.specs.declared.up.Up.TheVariants as up
use Rattle.pres_wire.specs.Messages.{session_in, q_in}
use Rattle.pres_log.specs.declared.entry.Entry.{Entry}
use Rattle.pres_log.specs.declared.entry.Entry.TheVariants as entry
use Rattle.pres_server.specs.declared.input.Input.{Input}
use Rattle.pres_server.specs.declared.input.Input.TheVariants as input
use Rattle.pres_history.specs.Sessions.{is_open, count}

-- a message made the entry: every one but an end that its client didn't ask for
abbrev pub accepts : Entry → Bool
accepts (entry.Ended s q why rows) = is_some q
accepts _ = true

-- how many of the entries stand for a message
abbrev pub accepted : List Entry → ℕ
accepted es = length (filter accepts es)

-- how many messages an input is
abbrev pub messages_in : Input → ℕ
messages_in (input.Up m) = 1
messages_in _ = 0

abbrev pub is_hello : Up → Bool
is_hello (up.Hello s) = true
is_hello _ = false

-- the input is the Hello of s
abbrev pub is_hello_of : SessionId → Input → Bool
is_hello_of s (input.Up (up.Hello t)) = same_session s t
is_hello_of s _ = false

-- the message has the number that comes next in its session
abbrev pub HasNextNumber : Up → List Entry → Type 0
HasNextNumber m before = q_in m ≡ Some (count (session_in m) before + 1)

-- and that session is open
abbrev pub IsNextMessage : Up → List Entry → Type 0
IsNextMessage m before = (is_open (session_in m) before ≡ true) × HasNextNumber m before
