use Rattle.pres_server.proofs.BaseSums.{base_has_sum, base_is_kept}
use Rattle.pres_server.proofs.laws.bases_have_sums.Goals as goal

pub returns-clause-sum : goal.returns-clause-sum
returns-clause-sum c = base_has_sum

pub returns-clause-kept : goal.returns-clause-kept
returns-clause-kept c = base_is_kept
