use Rattle.std.proofs.Common.{ap₂, ◌∙◌, ◌++◌}
use Rattle.std.proofs.lemmas.Result.{IfOk-weaker}
use Rattle.pres_pages.proofs.traffic.answers_text.Goals as goal

pub returns : goal.returns
returns c = IfOk-weaker c.format.result _ _ (λ text is. is ∙ ap₂ ◌++◌ c.in_ok-reply.ensures (ap₂ ◌++◌ c.in_ok-armed.ensures (ap₂ ◌++◌ c.in_ok-snap.ensures (ap₂ ◌++◌ c.in_ok-off_done.ensures c.in_ok-denied.ensures)))) c.format.ensures.ok
