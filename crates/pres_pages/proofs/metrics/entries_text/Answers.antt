use Rattle.std.proofs.Common.{ap₂, ◌∙◌, ◌++◌}
use Rattle.std.proofs.lemmas.Result.{IfOk-weaker}
use Rattle.pres_pages.proofs.metrics.entries_text.Goals as goal

pub returns : goal.returns
returns c = IfOk-weaker c.format.result _ _ (λ text is. is ∙ ap₂ ◌++◌ c.in_ok-head.ensures (ap₂ ◌++◌ c.in_ok-sessions.ensures (ap₂ ◌++◌ c.in_ok-rows.ensures (ap₂ ◌++◌ c.in_ok-on.ensures c.in_ok-off.ensures)))) c.format.ensures.ok
