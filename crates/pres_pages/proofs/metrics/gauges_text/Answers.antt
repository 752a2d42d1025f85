use Rattle.std.proofs.Common.{ap, ap₂, codes, ◌∙◌, ◌++◌}
use Rattle.std.proofs.lemmas.Result.{IfOk-weaker}
use Rattle.pres_pages.specs.Pages.{metric_text}
use Rattle.pres_pages.proofs.metrics.gauges_text.Goals as goal

pub returns : goal.returns
returns c =
    let unwell = c.in_ok-unwell.ensures ∙ ap (metric_text (codes "presence_unwell") (codes "1 while commits are refused or the server is to end, else 0.") (codes "gauge")) c.unwell_now.ensures in
    IfOk-weaker c.format.result _ _ (λ text is. is ∙ ap₂ ◌++◌ c.in_ok-number.ensures (ap₂ ◌++◌ c.in_ok-sessions.ensures (ap₂ ◌++◌ c.in_ok-connections.ensures (ap₂ ◌++◌ unwell c.in_ok-file.ensures)))) c.format.ensures.ok
