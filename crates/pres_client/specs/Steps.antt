-- What happens to one incarnation of a client, step by step.
use Rattle.std.specs.Prelude.{List, [], ◌∷◌, All, ⊤, if◌then◌else◌}
use Rattle.std.specs.Option.{is_none}
use Rattle.pres_wire.specs.declared.down.Down.{Down}
use Rattle.pres_wire.specs.declared.down.Down.TheVariants as down
use Rattle.pres_wire.specs.Values.{Rising}
use Rattle.pres_client.specs.declared.call.Call.{Call}
use Rattle.pres_client.specs.Clients.{ClientState}
use Rattle.pres_client.specs.Calls.{refusal, after_call}
use Rattle.pres_client.specs.ReceivedMessages.{after_receive}

-- one thing that happens to it
pub data ClientStep : Type 0 where
  calls : Call → ClientStep
  receives : Down → ClientStep
  -- what it has to send, and what it noted, is handed out
  hands_out_sends : ClientStep
  hands_out_notices : ClientStep

-- a call that is refused changes nothing
abbrev pub after : ClientState → ClientStep → ClientState
after c (calls k) = if is_none (refusal c k) then after_call c k else c
after c (receives m) = after_receive c m
after c hands_out_sends = record c { sends = [] }
after c hands_out_notices = record c { notices = [] }

-- the client after the steps
abbrev pub run : ClientState → List ClientStep → ClientState
run c [] = c
run c (s ∷ steps) = run (after c s) steps

-- a Push tells values at paths that rise, as every one does that is made or read
abbrev pub IsMessage : Down → Type 0
IsMessage (down.Push s r z values) = Rising values
IsMessage _ = ⊤

-- a step that may happen: what is received is a message
abbrev pub IsClientStep : ClientStep → Type 0
IsClientStep (receives m) = IsMessage m
IsClientStep _ = ⊤

-- every step may happen
abbrev pub AreMessages : List ClientStep → Type 0
AreMessages steps = All IsClientStep steps
