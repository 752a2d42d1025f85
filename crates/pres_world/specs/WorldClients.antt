-- A client of a world: what it has to send becomes packets at once, and what it takes from the server is noted.
use Rattle.std.specs.Prelude.{◌+◌, ◌&&◌, Bool, true, false, not, List, [], ◌∷◌, if◌then◌else◌, nat_lt}
use Rattle.pres_ids.specs.Ids.{ClientId}
use Rattle.pres_ids.specs.Numbers.{greatest_number}
use Rattle.pres_wire.specs.declared.down.Down.{Down}
use Rattle.pres_wire.specs.declared.down.Down.TheVariants as down
use Rattle.pres_client.specs.Clients.{ClientState, start}
use Rattle.pres_client.specs.ReceivedMessages.{accepts}

-- what it had to send was handed out
abbrev pub handed_out : ClientState → ClientState
handed_out c = record c { sends = [] }

-- a Fault has no place in a stream
abbrev pub is_fault : Down → Bool
is_fault (down.Welcome s z ops) = false
is_fault (down.Reply s r z q n done out) = false
is_fault (down.Gone s r z why) = false
is_fault (down.Fault session reason) = true
is_fault (down.Armed s r z q) = false
is_fault (down.Denied s r z q why) = false
is_fault (down.Snap s r z q p v) = false
is_fault (down.Push s r z values) = false
is_fault (down.OffDone s r z q) = false

-- the message again, where the client takes it: a Welcome, or the next one of its stream
abbrev pub acknowledged : ClientState → Down → List Down
acknowledged c m = if accepts c m && not (is_fault m) then m ∷ [] else []

-- its program starts again, as long as there are numbers for that
abbrev pub started_again : ClientId → ClientState → ClientState
started_again id c = if nat_lt c.session.incarnation greatest_number then start id (c.session.incarnation + 1) else c
