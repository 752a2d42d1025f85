use Rattle.std.proofs.Common.{arith}
use Rattle.pres_retry.specs.Tables.{rows_of}
use Rattle.pres_server.proofs.Overlaid.{again_after}
use Rattle.pres_server.proofs.index.Index.order_after.Goals as goal

pub returns-then-get-rows : goal.returns-then-get-rows
returns-then-get-rows c = λ rows e. again_after c.args.n c.args.done (rows_of c.args.client.now c.args.self.now.retry) rows (omega arith) (omega arith) e
