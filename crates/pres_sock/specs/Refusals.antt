-- What a connection is answered where it is refused something.
use Rattle.std.specs.Prelude.{◌≡◌, ◌⊎◌, ⊤, Bool, true, false, Option, Some, None, Result, Ok, Err}
use Rattle.pres_ids.specs.declared.id.SessionId.{SessionId}
use Rattle.pres_wire.specs.declared.fault.WireFault.{WireFault}
use Rattle.pres_wire.specs.declared.up.Up.{Up}
use Rattle.pres_wire.specs.declared.up.Up.TheVariants as up
use Rattle.pres_wire.specs.declared.down.Down.{Down}
use Rattle.pres_wire.specs.declared.down.Down.TheVariants as down
use Rattle.pres_wire.specs.declared.down.Code.{Code}
use Rattle.pres_wire.specs.declared.down.Code.TheVariants as code
use Rattle.pres_log.specs.Faults.{code_of as code_of_server}
use Rattle.pres_faults.specs.declared.hub_fault.HubFault.{HubFault}
use Rattle.pres_faults.specs.declared.hub_fault.HubFault.TheVariants as hub

-- the code of a fault message; none where the hub has less than was sent to the seat, or more of its session
abbrev pub code_of : HubFault → Option Code
code_of hub.Memory = Some code.Busy
code_of (hub.Refused e) = Some (code_of_server e)
code_of (hub.Keeper e) = Some code.Busy
code_of hub.Down = Some code.Down
code_of e = None

-- what answers a binary message of this session
abbrev pub bad : SessionId → Option Down
bad session = Some (down.Fault (Some session) code.Bad)

-- what answers a text that is no message: the same, or that memory was refused
abbrev pub AnswersBad : SessionId → Option Down → Type 0
AnswersBad session answer = (answer ≡ bad session) ⊎ (answer ≡ Some (down.Fault (Some session) code.Busy))

-- what was read is no Hello
abbrev pub IsNoHello : Result Up WireFault → Type 0
IsNoHello (Ok (up.Hello session)) = ⊥
IsNoHello read = ⊤

-- a fault message that refuses what was asked for: it names the session, or has the code of what is no Hello
abbrev pub IsHelloRefusal : Result SessionId Code → Down → Type 0
IsHelloRefusal (Ok session) (down.Fault named code) = named ≡ Some session
IsHelloRefusal (Err bad) message = message ≡ down.Fault None bad
IsHelloRefusal asked message = ⊥

-- the connection ends after it: before a session is open, anything but a Hello ends it
abbrev pub is_last : Down → Bool
is_last (down.Fault None code.Bad) = true
is_last message = false
