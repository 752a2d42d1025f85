use Rattle.std.proofs.Common.{ap₂, ◌∙◌, ◌++◌}
use Rattle.std.proofs.lemmas.Result.{IfOk-weaker}
use Rattle.pres_pages.proofs.metrics.sessions_text.Goals as goal

pub returns : goal.returns
returns c = IfOk-weaker c.format.result _ _ (λ text is. is ∙ ap₂ ◌++◌ c.in_ok-opened.ensures (ap₂ ◌++◌ c.in_ok-written.ensures (ap₂ ◌++◌ c.in_ok-again.ensures c.in_ok-ended.ensures))) c.format.ensures.ok
