use Rattle.std.proofs.Common.{arith}
use Rattle.std.proofs.lemmas.Grind.{common_steps}
use Rattle.pres_tree.proofs.children.to_map.Goals as goal

pub returns-in-Err-insert-clause-err : goal.returns-in-Err-insert-clause-err
returns-in-Err-insert-clause-err g c = grind (arith, common_steps)

pub refill-requires-in-Err-insert : goal.refill-requires-in-Err-insert
refill-requires-in-Err-insert g c = grind (arith, common_steps)

pub returns-in-Err-clause-err : goal.returns-in-Err-clause-err
returns-in-Err-clause-err g c = grind (arith, common_steps)
