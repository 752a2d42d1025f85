-- What messages name.
use Rattle.std.specs.Prelude.{ℕ, Option, Some, None}
use Rattle.pres_ids.specs.declared.id.SessionId.{SessionId}
use Rattle.pres_wire.specs.declared.up.Up.{Up}
use Rattle.pres_wire.specs.declared.up.Up.TheVariants as up
use Rattle.pres_wire.specs.declared.down.Down.{Down}
use Rattle.pres_wire.specs.declared.down.Down.TheVariants as down

-- the session of a message to the server
abbrev pub session_in : Up → SessionId
session_in (up.Hello s) = s
session_in (up.Op s q n op) = s
session_in (up.Bye s q) = s
session_in (up.Left s q op) = s
session_in (up.Cancel s q p) = s
session_in (up.Beat s) = s
session_in (up.On s q p) = s
session_in (up.Off s q p) = s

-- the number of a message in its session; a Hello and a Beat have none
abbrev pub q_in : Up → Option ℕ
q_in (up.Hello s) = None
q_in (up.Op s q n op) = Some q
q_in (up.Bye s q) = Some q
q_in (up.Left s q op) = Some q
q_in (up.Cancel s q p) = Some q
q_in (up.Beat s) = None
q_in (up.On s q p) = Some q
q_in (up.Off s q p) = Some q

-- the session that a message is for
abbrev pub session_for : Down → Option SessionId
session_for (down.Welcome s z ops) = Some s
session_for (down.Reply s r z q n done out) = Some s
session_for (down.Gone s r z why) = Some s
session_for (down.Fault session code) = session
session_for (down.Armed s r z q) = Some s
session_for (down.Denied s r z q limit) = Some s
session_for (down.Snap s r z q p v) = Some s
session_for (down.Push s r z vs) = Some s
session_for (down.OffDone s r z q) = Some s

-- the server's number in a message to a client, 0 in a Fault
abbrev pub number_in : Down → ℕ
number_in (down.Welcome s z ops) = z
number_in (down.Reply s r z q n done out) = z
number_in (down.Gone s r z why) = z
number_in (down.Fault session code) = 0
number_in (down.Armed s r z q) = z
number_in (down.Denied s r z q limit) = z
number_in (down.Snap s r z q p v) = z
number_in (down.Push s r z vs) = z
number_in (down.OffDone s r z q) = z
