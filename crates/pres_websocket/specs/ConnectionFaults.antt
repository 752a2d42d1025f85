-- Why a connection ended.
use Rattle.std.specs.Prelude.{ℕ, Bool, true, false, Result, Ok, Err}
use Rattle.tungstenite.specs.declared.error.Error.{Error}
use Rattle.tungstenite.specs.declared.error.Error.TheVariants as error
use Rattle.pres_websocket.specs.declared.fault.SockFault.{SockFault}
use Rattle.pres_websocket.specs.declared.fault.SockFault.TheVariants as fault

-- it ended before there was a WebSocket, so no session was opened
abbrev pub is_handshake : SockFault → Bool
is_handshake (fault.Handshake e) = true
is_handshake e = false

-- it ended so
abbrev pub fails_to_shake : {A : Type 0} → Result A SockFault → Bool
fails_to_shake (Ok x) = false
fails_to_shake (Err e) = is_handshake e

-- the number that programs print
abbrev pub number_of : SockFault → ℕ
number_of (fault.Handshake e) = 1
number_of (fault.Stream e) = 2
number_of (fault.Hub e) = 3
number_of fault.Memory = 4
number_of fault.Turns = 5

-- the fault of a handshake's error
abbrev pub of_shake : Error → SockFault
of_shake error.OutOfMemory = fault.Memory
of_shake e = fault.Handshake e

-- the fault of an error after the handshake
abbrev pub of_stream : Error → SockFault
of_stream error.OutOfMemory = fault.Memory
of_stream e = fault.Stream e
