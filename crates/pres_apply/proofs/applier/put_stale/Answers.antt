use Rattle.std.proofs.Common.{arith}
use Rattle.std.proofs.lemmas.Grind.{common_steps}
use Rattle.pres_apply.proofs.applier.put_stale.Goals as goal

pub returns-clause-ok : goal.returns-clause-ok
returns-clause-ok c = grind (arith, common_steps)

pub returns-in_err-extend_from_slice-2-clause-before : goal.returns-in_err-extend_from_slice-2-clause-before
returns-in_err-extend_from_slice-2-clause-before c = grind (arith, common_steps)

pub returns-in_err-extend_from_slice-in-None-clause-before : goal.returns-in_err-extend_from_slice-in-None-clause-before
returns-in_err-extend_from_slice-in-None-clause-before c = grind (arith, common_steps)

pub returns-in_err-print-in-Some-clause-before : goal.returns-in_err-print-in-Some-clause-before
returns-in_err-print-in-Some-clause-before c = grind (arith, common_steps)

pub returns-in_err-push-clause-before : goal.returns-in_err-push-clause-before
returns-in_err-push-clause-before c = grind (arith, common_steps)

pub returns-in_err-extend_from_slice-clause-before : goal.returns-in_err-extend_from_slice-clause-before
returns-in_err-extend_from_slice-clause-before c = grind (arith, common_steps)
