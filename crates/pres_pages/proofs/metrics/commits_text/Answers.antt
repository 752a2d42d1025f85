use Rattle.std.proofs.Common.{ap₂, ◌∙◌, ◌++◌}
use Rattle.std.proofs.lemmas.Result.{IfOk-weaker}
use Rattle.pres_pages.proofs.metrics.commits_text.Goals as goal

pub returns : goal.returns
returns c = IfOk-weaker c.format.result _ _ (λ text is. is ∙ ap₂ ◌++◌ c.in_ok-connections.ensures (ap₂ ◌++◌ c.in_ok-commits.ensures (ap₂ ◌++◌ c.in_ok-batches.ensures c.in_ok-refused.ensures))) c.format.ensures.ok
