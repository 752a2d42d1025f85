-- A loss that the server hears of.
use Rattle.std.proofs.Common.{◌≡◌, ◌∙◌, sym, ap, ℕ, List, [], ◌∷◌}
use Rattle.pres_ids.specs.declared.id.SessionId.{SessionId}
use Rattle.pres_ids.specs.declared.id.Stamp.{Stamp}
use Rattle.pres_ids.specs.Ids.{ClientId}
use Rattle.pres_server.specs.declared.input.Input.TheVariants as input
use Rattle.pres_server.specs.InternalParts.{session_with}
use Rattle.pres_world.specs.declared.event.Ending.{Ending}
use Rattle.pres_world.specs.ServerSides.{ServerSideState, served, lost}

pub lost_is : (w : ServerSideState) (now : ℕ) (e : Ending) (id : ClientId) (stamp : Stamp) (found : List SessionId) (s : SessionId) → found ≡ session_with id stamp ∷ [] → s ≡ session_with id stamp → served w (input.Lost s) now e ≡ lost found w now e
lost_is w now e id stamp found s is same = ap (λ t. served w (input.Lost t) now e) same ∙ sym (ap (λ ss. lost ss w now e) is)
