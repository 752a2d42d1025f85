-- Why a server or a client ended early: the words for each fault, and the exit status.
use Rattle.std.specs.Prelude.{ℕ, Bool, true, false}
use Rattle.pres_faults.specs.declared.saved_fault.SavedFault.{SavedFault}
use Rattle.pres_faults.specs.declared.saved_fault.SavedFault.TheVariants as saved
use Rattle.pres_faults.specs.declared.hub_fault.HubFault.{HubFault}
use Rattle.pres_faults.specs.declared.hub_fault.HubFault.TheVariants as hub
use Rattle.pres_websocket.specs.declared.fault.SockFault.{SockFault}
use Rattle.pres_websocket.specs.declared.fault.SockFault.TheVariants as sock
use Rattle.pres_tcp.specs.declared.health.Halt.{Halt}
use Rattle.pres_tcp.specs.declared.health.Halt.TheVariants as halt
use Rattle.pres_script.specs.declared.fault.ScriptFault.{ScriptFault}
use Rattle.pres_script.specs.declared.fault.ScriptFault.TheVariants as script
use Rattle.pres_service.specs.declared.fault.ServiceFault.{ServiceFault}
use Rattle.pres_service.specs.declared.fault.ServiceFault.TheVariants as fault

-- 1 input, 3 store, 4 socket, 5 memory
abbrev pub status_of : ServiceFault → ℕ
status_of fault.Input = 1
status_of (fault.Store e) = 3
status_of fault.Address = 4
status_of (fault.Sock e) = 4
status_of fault.Memory = 5
status_of fault.Shut = 3
status_of fault.Down = 5

-- a server ended that had begun to serve: its store was shut, or its hub is down
abbrev pub is_halt : ServiceFault → Bool
is_halt fault.Shut = true
is_halt fault.Down = true
is_halt e = false

abbrev pub of_halt : Halt → ServiceFault
of_halt halt.Shut = fault.Shut
of_halt halt.Down = fault.Down

-- what the file is refused for is its own, but for memory
abbrev pub of_saved : SavedFault → ServiceFault
of_saved saved.Memory = fault.Memory
of_saved e = fault.Store e

-- what a hub refuses: its file, memory, or the connection
abbrev pub of_hub : HubFault → ServiceFault
of_hub hub.Memory = fault.Memory
of_hub (hub.Keeper e) = of_saved e
of_hub e = fault.Sock (sock.Hub e)

abbrev pub of_sock : SockFault → ServiceFault
of_sock sock.Memory = fault.Memory
of_sock (sock.Hub e) = of_hub e
of_sock e = fault.Sock e

-- what a script refuses
abbrev pub of_script : ScriptFault → ServiceFault
of_script script.Memory = fault.Memory
of_script script.Input = fault.Input
