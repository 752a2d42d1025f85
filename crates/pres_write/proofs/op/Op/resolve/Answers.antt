use Rattle.std.proofs.Common.{sym, ap, ◌∙◌}
use Rattle.pres_write.specs.declared.op.Op.TheVariants.{Set}
use Rattle.pres_write.specs.Outcomes.{resolved}
use Rattle.pres_write.proofs.op.Op.resolve.Goals as goal

pub returns-in_ok-one_write-in-Set-clause-outcome : goal.returns-in_ok-one_write-in-Set-clause-outcome
returns-in_ok-one_write-in-Set-clause-outcome c =
    let tree = c.args.tree.now in
    let path = c.in_ok-path-in-Set.ensures ∙ c.path.ensures.path in
    c.in_ok-one_write-in-Set.ensures.outcome
    ∙ (λ i. resolved tree c.args.moment (Set (path i, c.draft.ensures i)))
    ∙ ap (resolved tree c.args.moment) (sym c.in-Set.is)
