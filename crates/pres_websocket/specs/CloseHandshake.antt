-- How a connection is closed (RFC 6455, 7.1.1).
use Rattle.std.specs.Prelude.{◌≡◌, ℕ, List, [], ◌∷◌, Option, Result, OnOk, IfErr}
use Rattle.tungstenite.specs.Connection.{close_step}
use Rattle.tungstenite.specs.Failure.{IsIo, WriteFails}
use Rattle.tungstenite.specs.Socket.{Socket, Reads, Writes, close_of}
use Rattle.tungstenite.specs.declared.error.Error.{Error}
use Rattle.tungstenite.specs.declared.error.Error.TheVariants.{OutOfMemory}
use Rattle.tungstenite.specs.declared.message.CloseFrame.{CloseFrame}
use Rattle.tungstenite.specs.declared.message.Message.{Message}

module _ {S : Type 0} (remaining : S → Option (List ℕ)) where
  -- reads one after the other, the last of them first
  abbrev pub ReadsOn : List (Result Message Error) → Socket S → Socket S → Type 0
  ReadsOn [] from to = to ≡ from
  ReadsOn (given ∷ before) from to = (mid : Socket S) × ReadsOn before from mid × Reads remaining mid to given

module _ {S : Type 0} (contents : S → Option (List ℕ)) where
  -- a close was written, or it wasn't, and why
  abbrev pub Asks : Option CloseFrame → Socket S → Socket S → Result (Unit {0}) Error → Type 0
  Asks frame old new asked =
      OnOk asked (Writes contents old new (close_step old.conn (close_of frame)))
      × IfErr asked (λ e. WriteFails (close_step old.conn (close_of frame)) e
      × (IsIo e → Writes contents old new (close_step old.conn (close_of frame)))
      × (e ≡ OutOfMemory → new ≡ old))

module _ {S : Type 0} (remaining contents : S → Option (List ℕ)) where
  -- the close was asked for, and then what the peer had still sent was read
  abbrev pub Closes : Option CloseFrame → Socket S → Socket S → Type 0
  Closes frame old new =
      (asked : Result (Unit {0}) Error) × (mid : Socket S) × (given : List (Result Message Error))
      × Asks contents frame old mid asked × ReadsOn remaining given mid new
