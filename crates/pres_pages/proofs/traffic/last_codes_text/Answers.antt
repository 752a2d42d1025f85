use Rattle.std.proofs.Common.{ap₂, ◌∙◌, ◌++◌}
use Rattle.std.proofs.lemmas.Result.{IfOk-weaker}
use Rattle.pres_pages.proofs.traffic.last_codes_text.Goals as goal

pub returns : goal.returns
returns c = IfOk-weaker c.format.result _ _ (λ text is. is ∙ ap₂ ◌++◌ c.in_ok-full.ensures (ap₂ ◌++◌ c.in_ok-busy.ensures (ap₂ ◌++◌ c.in_ok-spent.ensures c.in_ok-down.ensures))) c.format.ensures.ok
