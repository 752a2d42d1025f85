use Rattle.std.proofs.Common.{arith}
use Rattle.std.proofs.lemmas.Grind.{common_steps}
use Rattle.pres_wire.proofs.down.Down.copy.Goals as goal

pub returns-in_ok-session-in-OffDone : goal.returns-in_ok-session-in-OffDone
returns-in_ok-session-in-OffDone c = grind (arith, common_steps)

pub returns-in_ok-session-in-Welcome : goal.returns-in_ok-session-in-Welcome
returns-in_ok-session-in-Welcome c = grind (arith, common_steps)

pub returns-in_ok-session-in-Reply : goal.returns-in_ok-session-in-Reply
returns-in_ok-session-in-Reply c = grind (arith, common_steps)

pub returns-in_ok-session-in-Fault : goal.returns-in_ok-session-in-Fault
returns-in_ok-session-in-Fault c = grind (arith, common_steps)

pub returns-in_ok-session-in-Gone : goal.returns-in_ok-session-in-Gone
returns-in_ok-session-in-Gone c = grind (arith, common_steps)

pub returns-in_ok-session-in-Armed : goal.returns-in_ok-session-in-Armed
returns-in_ok-session-in-Armed c = grind (arith, common_steps)
