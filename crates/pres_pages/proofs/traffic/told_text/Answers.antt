use Rattle.std.proofs.Common.{ap₂, ◌∙◌, ◌++◌}
use Rattle.std.proofs.lemmas.Result.{IfOk-weaker}
use Rattle.pres_pages.proofs.traffic.told_text.Goals as goal

pub returns : goal.returns
returns c = IfOk-weaker c.format.result _ _ (λ text is. is ∙ ap₂ ◌++◌ c.in_ok-welcome.ensures (ap₂ ◌++◌ c.in_ok-push.ensures (ap₂ ◌++◌ c.in_ok-gone.ensures c.in_ok-fault.ensures))) c.format.ensures.ok
