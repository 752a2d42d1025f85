use Rattle.std.proofs.Common.{sym, ap, ◌∙◌}
use Rattle.std.specs.List.{list_any}
use Rattle.std.specs.Map.{values_of}
use Rattle.pres_plan.specs.Plans.{puts_above}
use Rattle.pres_plan.proofs.Tops.{put_above}
use Rattle.pres_plan.proofs.plan.Plan.has_put_above.Goals as goal

pub returns : goal.returns
returns c =
    c.is_some.ensures
    ∙ c.top_above.ensures.above
    ∙ sym (put_above c.args.path.now (values_of c.self.inside.standing.rows) c.self.invariant.plan)
    ∙ ap (list_any (puts_above c.args.path.now)) c.self.view_is
