use Rattle.std.proofs.Common.{◌≡◌, Result, Ok, Err, IfErr, MatchResult, IsErrAnd, sym, subst}
use Rattle.tungstenite.specs.Content.{text as text_content}
use Rattle.tungstenite.specs.Connection.{write_step}
use Rattle.tungstenite.specs.Failure.{WriteFails}
use Rattle.tungstenite.specs.declared.error.Error.{Error as Cause}
use Rattle.pres_websocket.specs.ConnectionFaults.{of_stream}
use Rattle.pres_websocket.specs.declared.fault.SockFault.{SockFault}
use Rattle.pres_websocket.proofs.socket.write.Goals as goal

-- the fault that an error was mapped to is that error's
mapped : {T : Type 0} (P : Cause → Type 0) (Q : Cause → SockFault → Type 0) (from : Result T Cause) (to : Result T SockFault)
    → ((cause : Cause) (e : SockFault) → Q cause e → e ≡ of_stream cause)
    → IfErr from P → MatchResult from (λ x. to ≡ Ok x) (λ cause. IsErrAnd to (Q cause))
    → IfErr to (λ e. (cause : Cause) × P cause × (e ≡ of_stream cause))
mapped P Q (Ok x) to is failed cases = subst (λ r. IfErr r (λ e. (cause : Cause) × P cause × (e ≡ of_stream cause))) (sym cases) tt
mapped P Q (Err cause) (Ok x) is failed cases = absurd cases
mapped P Q (Err cause) (Err e) is failed cases = (cause, failed, is cause e cases)

-- what holds of a fault holds of it also where something else is known
weaker : {T : Type 0} (P Q : SockFault → Type 0) (r : Result T SockFault) → ((e : SockFault) → P e → Q e) → IfErr r P → IfErr r Q
weaker P Q (Ok x) by holds = tt
weaker P Q (Err e) by holds = by e holds

pub returns-clause-failed : goal.returns-clause-failed
returns-clause-failed g c =
    let failed = subst (λ content. IfErr c.write.result (WriteFails (write_step c.args.socket.now.conn content))) c.in_ok-text.ensures c.write.ensures.failed in
    weaker _ _ c.map_err.result (λ e known _. known)
    (mapped (WriteFails (write_step c.args.socket.now.conn (text_content c.args.text.now))) _ c.write.result c.map_err.result (λ cause e is. is.0) failed c.map_err.ensures.cases)
