use Rattle.std.proofs.Common.{[], Some}
use Rattle.tungstenite.specs.declared.CloseCode.TheVariants.{Normal}
use Rattle.pres_websocket.specs.CloseHandshake.{Closes}
use Rattle.pres_websocket.proofs.socket.close.Given as goal

-- what was read so far was read after the close
abbrev pub invariant-loop : goal.invariant-loop
invariant-loop g l = Closes (λ meter. g.S.Read.remaining meter.stream) (λ meter. g.S.Write.contents meter.stream) (Some (record { code = Normal; reason = [] })) l.fn.socket l.socket
