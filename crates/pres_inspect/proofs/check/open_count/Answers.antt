use Rattle.std.proofs.Common.{◌≡◌, ap, length, ◌∙◌}
use Rattle.pres_base.specs.declared.parts.BaseParts.{BaseParts}
use Rattle.pres_inspect.proofs.Printing.{open_sessions}
use Rattle.pres_inspect.proofs.check.open_count.Goals as goal

pub returns : goal.returns
returns c =
    let same : length c.as_slice-count.result.now ≡ length c.in-Ok.base.sessions = ap length (c.as_slice-count.ensures ∙ ap (λ (p : BaseParts). p.sessions) c.parts.ensures.parts) in
    let few = open_sessions c.in-Ok.base c.args.server.now.sum c.in-Ok.ensures.base in
    cc (same, few)
