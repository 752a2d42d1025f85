use Rattle.std.proofs.Common.{arith}
use Rattle.std.proofs.lemmas.Grind.{common_steps}
use Rattle.pres_log.proofs.entry.Entry.copy.Goals as goal

pub returns-in_ok-session-in-Cancelled : goal.returns-in_ok-session-in-Cancelled
returns-in_ok-session-in-Cancelled c = grind (arith, common_steps)

pub returns-in_ok-session-in-On : goal.returns-in_ok-session-in-On
returns-in_ok-session-in-On c = grind (arith, common_steps)

pub returns-in_ok-session-in-Off : goal.returns-in_ok-session-in-Off
returns-in_ok-session-in-Off c = grind (arith, common_steps)

pub returns-in_ok-copy-in-Open : goal.returns-in_ok-copy-in-Open
returns-in_ok-copy-in-Open c = grind (arith, common_steps)

pub returns-in_ok-copy-in-Denied : goal.returns-in_ok-copy-in-Denied
returns-in_ok-copy-in-Denied c = grind (arith, common_steps)

pub returns-in_ok-copy-in-Again : goal.returns-in_ok-copy-in-Again
returns-in_ok-copy-in-Again c = grind (arith, common_steps)
