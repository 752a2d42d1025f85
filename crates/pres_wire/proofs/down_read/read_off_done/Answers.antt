use Rattle.std.proofs.Common.{inr}
use Rattle.pres_wire.proofs.After.{after}
use Rattle.pres_wire.proofs.down_read.read_off_done.Goals as goal

pub returns-in-Err : goal.returns-in-Err
returns-in-Err c = inr (after _ c.in_ok-session.ensures (c.in-Err.ensures _))
