use Rattle.std.proofs.Common.{ap₂, ◌∙◌, ◌++◌}
use Rattle.std.proofs.lemmas.Result.{IfOk-weaker}
use Rattle.pres_pages.proofs.traffic.first_codes_text.Goals as goal

pub returns : goal.returns
returns c = IfOk-weaker c.format.result _ _ (λ text is. is ∙ ap₂ ◌++◌ c.in_ok-bad.ensures (ap₂ ◌++◌ c.in_ok-old.ensures (ap₂ ◌++◌ c.in_ok-session.ensures c.in_ok-order.ensures))) c.format.ensures.ok
