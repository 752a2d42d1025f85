use Rattle.std.proofs.Common.{◌≡◌, ℕ, List, [], ◌∷◌, Option, Some, Result, Ok, Err, IfErr, OnOk, refl, subst}
use Rattle.tungstenite.specs.Connection.{close_step}
use Rattle.tungstenite.specs.Failure.{IsIo, WriteFails}
use Rattle.tungstenite.specs.Socket.{Socket, Writes, close_of}
use Rattle.tungstenite.specs.declared.CloseCode.TheVariants.{Normal}
use Rattle.tungstenite.specs.declared.error.Error.{Error}
use Rattle.tungstenite.specs.declared.error.Error.TheVariants.{OutOfMemory}
use Rattle.tungstenite.specs.declared.message.CloseFrame.{CloseFrame}
use Rattle.pres_websocket.specs.CloseHandshake.{Asks}
use Rattle.pres_websocket.proofs.socket.close.Goals as goal

asks : {S : Type 0} (contents : S → Option (List ℕ)) (frame : Option CloseFrame) (old new : Socket S) (asked : Result (Unit {0}) Error)
    → OnOk asked (Writes contents old new (close_step old.conn (close_of frame)))
    → IfErr asked (WriteFails (close_step old.conn (close_of frame)))
    → IfErr asked (λ e. IsIo e → Writes contents old new (close_step old.conn (close_of frame)))
    → IfErr asked (λ e. e ≡ OutOfMemory → new ≡ old)
    → Asks contents frame old new asked
asks contents frame old new (Ok x) wrote failed stream memory = (wrote, tt)
asks contents frame old new (Err e) wrote failed stream memory = (tt, (failed, stream, memory))

pub loop-init : goal.loop-init
loop-init g c =
    let e = c.close.ensures in
    let asked = asks (λ meter. g.S.Write.contents meter.stream) (Some (record { code = Normal; reason = c.from_static.result })) c.args.socket.now c.close.new.self c.close.result e.wrote e.failed e.stream_failed e.memory in (
      c.close.result,
      c.close.new.self,
      [],
      subst (λ words. Asks (λ meter. g.S.Write.contents meter.stream) (Some (record { code = Normal; reason = words })) c.args.socket.now c.close.new.self c.close.result) c.from_static.ensures asked,
      refl,
    )

pub loop-preserved : goal.loop-preserved
loop-preserved g c =
    let i = c.loop.invariant in
    (i.0, i.1, c.read.result ∷ i.2, i.3, (c.loop.socket, i.4, c.read.ensures))

pub returns-in-Err : goal.returns-in-Err
returns-in-Err g c =
    let i = c.loop.invariant in
    (i.0, i.1, c.read.result ∷ i.2, i.3, (c.loop.socket, i.4, c.read.ensures))

pub returns : goal.returns
returns g c = c.loop.invariant
