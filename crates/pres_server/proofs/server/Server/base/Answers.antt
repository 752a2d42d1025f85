-- each answer was made after number 0
use Rattle.std.proofs.Common.{ap, ◌∙◌, subst, ◌≡◌}
use Rattle.std.specs.Result.{IfOk}
use Rattle.std.proofs.lemmas.Result.{IfOk-weaker}
use Rattle.pres_base.specs.declared.parts.BaseParts.{BaseParts}
use Rattle.pres_base.proofs.AnswersApart.{all_above_zero}
use Rattle.pres_server.specs.BaseSums.{sum_for, IsBaseAbove}
use Rattle.pres_server.proofs.server.Server.base.Goals as goal

pub returns-clause-base : goal.returns-clause-base
returns-clause-base c =
    let sum = c.args.self.now.sum in
    let above = subst (λ n. IfOk c.base_above.result (λ base. IsBaseAbove n sum base)) c.zero.ensures c.base_above.ensures.base in
    IfOk-weaker c.base_above.result (IsBaseAbove 0 sum) (λ (base : BaseParts). sum_for base ≡ sum) (λ base a. ap sum_for (a.above ∙ all_above_zero a.whole a.is_base) ∙ a.has_sum) above
