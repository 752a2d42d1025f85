use Rattle.std.proofs.Common.{arith}
use Rattle.std.proofs.lemmas.Grind.{common_steps}
use Rattle.pres_wire.proofs.down_text.snap_head.Goals as goal

pub returns-clause-ok : goal.returns-clause-ok
returns-clause-ok c = grind (arith, common_steps)

pub returns-clause-path : goal.returns-clause-path
returns-clause-path c = grind (arith, common_steps)

pub returns-in_err-text_field-2-clause-q : goal.returns-in_err-text_field-2-clause-q
returns-in_err-text_field-2-clause-q c = grind (arith, common_steps)
