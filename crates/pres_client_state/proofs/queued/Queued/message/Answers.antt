use Rattle.std.proofs.Common.{arith}
use Rattle.std.proofs.lemmas.Grind.{common_steps}
use Rattle.pres_client_state.proofs.queued.Queued.message.Goals as goal

pub returns-in_ok-path-in-On : goal.returns-in_ok-path-in-On
returns-in_ok-path-in-On c = grind (arith, common_steps)

pub returns-in_ok-path-in-Cancel : goal.returns-in_ok-path-in-Cancel
returns-in_ok-path-in-Cancel c = grind (arith, common_steps)

pub returns-in_ok-copy-in-Try : goal.returns-in_ok-copy-in-Try
returns-in_ok-copy-in-Try c = grind (arith, common_steps)

pub returns-in_ok-op-in-Write : goal.returns-in_ok-op-in-Write
returns-in_ok-op-in-Write c = grind (arith, common_steps)

pub returns-in_ok-path-in-Off : goal.returns-in_ok-path-in-Off
returns-in_ok-path-in-Off c = grind (arith, common_steps)

pub returns-in_ok-op-in-Left : goal.returns-in_ok-op-in-Left
returns-in_ok-op-in-Left c = grind (arith, common_steps)
