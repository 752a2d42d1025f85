use Rattle.std.proofs.Common.{rules, is_lt}
use Rattle.std.proofs.lemmas.List.Sorted.{answers_always}
use Rattle.pres_plan.specs.Plans.{row_cmp}
use Rattle.pres_plan.specs.declared.row.PlanRow.{PlanRow}
use Rattle.pres_base.proofs.Planned.{row_total}
use Rattle.pres_base.proofs.Answered.{in_order_itself}
use Rattle.pres_base.proofs.check.are_rows_in_order.Goals as goal

pub returns : goal.returns
returns c =
    in_order_itself row_cmp row_total c.args.rows.now c.is_sorted_by.result (c.is_sorted_by.ensures.cases (λ a b. is_lt (row_cmp a b)) (answers_always _ _ _ (λ f a r g h. search rules)))
