use Rattle.std.proofs.Common.{sym, ◌∙◌, true≢false}
use Rattle.pres_base.proofs.Planned.{whole_plan, uncovered_plan, mattering_plan}
use Rattle.pres_base.proofs.check.is_whole.Goals as goal

pub returns-then-none_covered : goal.returns-then-none_covered
returns-then-none_covered c =
    let rows = c.args.rows.now in (
      (λ t. whole_plan rows (sym c.none_covered.ensures ∙ c.if-none_covered.true) (sym c.each_matters.ensures ∙ t)),
      (λ whole. c.each_matters.ensures ∙ mattering_plan rows whole),
    )

pub returns-else-none_covered : goal.returns-else-none_covered
returns-else-none_covered c = (
  (λ t. absurd (true≢false (sym t ∙ c.if-none_covered.false))),
  (λ whole. c.none_covered.ensures ∙ uncovered_plan c.args.rows.now whole),
)
