-- What a client's run prints.
use Rattle.std.specs.Prelude.{◌≡◌, ℕ, List, [], ◌∷◌, ◌++◌, map, Option, Some, IfSome}
use Rattle.pres_ids.specs.Ids.{ClientId}
use Rattle.pres_client.specs.declared.call.Call.TheVariants.{GoOnline, GoOffline}
use Rattle.pres_client.specs.Clients.{ClientState, start}
use Rattle.pres_script.specs.declared.line.Line.{Line}
use Rattle.pres_client_connection.specs.DrivenClients.{Drives, asked_in}
use Rattle.pres_script.specs.Lines.{lines_in, as_parsed}

-- a new client was asked to go online, for what the lines say, and to go offline, the output grew by what was printed, and
-- nothing was left to send or to tell
pub record RunsClient (id : ClientId) (incarnation : ℕ) (lines : List Line) (old new : Option (List ℕ)) : Type 0 where
  pub now : ClientState
  pub driven : Drives (start id incarnation) (Some GoOnline ∷ asked_in lines ++ Some GoOffline ∷ []) now old new
  pub sent : now.sends ≡ []
  pub told : now.notices ≡ []

-- the same, by the lines of the input, where that is known
pub record HasRunClient (id : ClientId) (incarnation : ℕ) (input old new : Option (List ℕ)) : Type 0 where
  pub lines : List Line
  pub read : IfSome input (λ bytes. lines_in bytes ≡ map (λ line. Some (as_parsed line)) lines)
  pub visits : RunsClient id incarnation lines old new
