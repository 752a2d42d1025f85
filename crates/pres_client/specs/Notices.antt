-- What a client notes of values is what it shows.
use Rattle.std.specs.Prelude.{◌≡◌, ◌++◌, List, All, Some, ⊤}
use Rattle.pres_wire.specs.declared.down.Down.{Down}
use Rattle.pres_client_state.specs.declared.notice.Notice.{Notice}
use Rattle.pres_client_state.specs.declared.notice.Notice.TheVariants as notice
use Rattle.pres_client.specs.declared.call.Call.{Call}
use Rattle.pres_client.specs.Clients.{ClientState, view}
use Rattle.pres_client.specs.Steps.{calls, receives, after, IsMessage}

-- a value that is noted is the view of its path, at the view's number
abbrev pub IsShown : ClientState → Notice → Type 0
IsShown c (notice.Value p z v) = view p c ≡ Some (z, v)
IsShown c n = ⊤

-- these notices were added, and each value among them is what the client shows now
pub record Notes (before : List Notice) (now : ClientState) : Type 0 where
  pub noted : List Notice
  pub added : now.notices ≡ before ++ noted
  pub shown : All (IsShown now) noted

-- of every client, whatever it is called for
abbrev pub CallsNote : Type 0
CallsNote = (c : ClientState) (k : Call) → Notes c.notices (after c (calls k))

-- and whatever message comes
abbrev pub MessagesNote : Type 0
MessagesNote = (c : ClientState) (m : Down) → IsMessage m → Notes c.notices (after c (receives m))
