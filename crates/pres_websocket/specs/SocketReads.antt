-- What a read of a WebSocket (RFC 6455) returns.
use Rattle.std.specs.Prelude.{◌≡◌, ◌≢◌, ◌⊎◌, ⊤, Bool, true, false, Result, Ok, Err}
use Rattle.std.specs.IoError.{error_kind}
use Rattle.std.specs.declared.io.ErrorKind.TheVariants.{WouldBlock}
use Rattle.tungstenite.specs.declared.error.Error.{Error}
use Rattle.tungstenite.specs.declared.error.Error.TheVariants as error
use Rattle.tungstenite.specs.declared.message.Message.{Message}
use Rattle.tungstenite.specs.declared.message.Message.TheVariants as message
use Rattle.pres_websocket.specs.declared.fault.SockFault.{SockFault}
use Rattle.pres_websocket.specs.declared.fault.SockFault.TheVariants as fault
use Rattle.pres_websocket.specs.declared.socket.Received.{Received}
use Rattle.pres_websocket.specs.declared.socket.Received.TheVariants as came
use Rattle.pres_websocket.specs.ConnectionFaults.{of_stream}
use Rattle.pres_websocket.specs.Meters.{Meter, is_spent}

-- a read of the stream that failed: where it would block it gave nothing, and there is no turn left or there is one
abbrev pub blocked : Bool → Result Received SockFault
blocked true = Err fault.Turns
blocked false = Ok came.Nothing

module _ {S : Type 0} where
  -- what a read returns: a text gives its words, a ping and a pong give nothing, a close is the peer's, and a stream
  -- that would block gives nothing while there are turns
  abbrev pub IsReadAs : Meter S → Result Message Error → Result Received SockFault → Type 0
  IsReadAs meter (Ok (message.Text text)) told = told ≡ Ok (came.Text text)
  IsReadAs meter (Ok (message.Binary bytes)) told = told ≡ Ok came.Binary
  IsReadAs meter (Ok (message.Ping bytes)) told = told ≡ Ok came.Nothing
  IsReadAs meter (Ok (message.Pong bytes)) told = told ≡ Ok came.Nothing
  IsReadAs meter (Ok (message.Close frame)) told = told ≡ Ok came.Close
  IsReadAs meter (Err error.ConnectionClosed) told = told ≡ Ok came.Close
  IsReadAs meter (Err (error.Io cause)) told =
      ((error_kind cause ≡ WouldBlock) × (told ≡ blocked (is_spent meter)))
      ⊎ ((error_kind cause ≢ WouldBlock) × (told ≡ Err (fault.Stream (error.Io cause))))
  IsReadAs meter (Err e) told = told ≡ Err (of_stream e)

-- why there is no WebSocket: the handshake failed, memory was refused or no turn was left
abbrev pub IsOfShake : SockFault → Type 0
IsOfShake (fault.Stream e) = ⊥
IsOfShake (fault.Hub e) = ⊥
IsOfShake e = ⊤
