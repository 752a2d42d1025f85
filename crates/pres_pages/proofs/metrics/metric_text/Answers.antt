use Rattle.std.proofs.Common.{ap, ◌∙◌, ◌++◌}
use Rattle.std.proofs.lemmas.Result.{IfOk-weaker}
use Rattle.pres_pages.specs.Pages.{sample_text}
use Rattle.pres_pages.proofs.metrics.metric_text.Goals as goal

pub returns : goal.returns
returns c = IfOk-weaker c.format.result _ _ (λ text is. is ∙ ap (λ head. head ++ sample_text c.args.name.now c.args.value) c.in_ok-head.ensures) c.format.ensures.ok
