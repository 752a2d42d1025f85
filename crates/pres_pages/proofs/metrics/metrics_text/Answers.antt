use Rattle.std.proofs.Common.{ap₂, ◌∙◌, ◌++◌}
use Rattle.std.proofs.lemmas.Result.{IfOk-weaker}
use Rattle.pres_pages.proofs.metrics.metrics_text.Goals as goal

pub returns : goal.returns
returns c = IfOk-weaker c.format.result _ _ (λ text is. is ∙ ap₂ ◌++◌ c.in_ok-gauges.ensures (ap₂ ◌++◌ c.in_ok-commits.ensures (ap₂ ◌++◌ c.in_ok-entries.ensures (ap₂ ◌++◌ c.in_ok-times.ensures (ap₂ ◌++◌ c.in_ok-checkpoints.ensures c.in_ok-traffic.ensures))))) c.format.ensures.ok
