use Rattle.std.proofs.Common.{sym, ap, ◌∙◌}
use Rattle.pres_write.specs.declared.op.Op.TheVariants.{Set}
use Rattle.pres_write.specs.Outcomes.{resolved}
use Rattle.pres_write.proofs.op.Op.resolve_owned.Goals as goal

pub returns-in_ok-one_moved-in-Set-clause-outcome : goal.returns-in_ok-one_moved-in-Set-clause-outcome
returns-in_ok-one_moved-in-Set-clause-outcome c =
    let tree = c.args.tree.now in
    c.in_ok-one_moved-in-Set.ensures.outcome
    ∙ ap (λ p. resolved tree c.args.moment (Set p)) c.into_parts-path.ensures.parts
    ∙ ap (resolved tree c.args.moment) (sym c.in-Set.is)
