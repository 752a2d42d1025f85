use Rattle.std.proofs.Common.{◌+◌, ◌++◌, ◌∷◌, [], sym, ◌∙◌, ap, subst, take, drop}
use Rattle.std.proofs.lemmas.List.{take_more, take-append-drop}
use Rattle.pres_plan.specs.Plans.{IsPlan}
use Rattle.pres_base.proofs.Fronts.{front_plan}
use Rattle.pres_base.proofs.plans.plan_of_rows.Goals as goal

pub add_row-requires : goal.add_row-requires
add_row-requires c =
    let rows = c.args.rows.now in
    let i = c.loop-row.row-index in
    let row = c.row-item.result in
    let more = take_more rows i row c.loop-row-test.true ∙ ap (λ r. take i rows ++ r ∷ []) (sym c.row-item.is) in
    subst IsPlan (more ∙ (λ j. sym c.loop-row.invariant j ++ sym c.in_ok-copy.ensures j ∷ []))
    (front_plan (take (i + 1) rows) (drop (i + 1) rows) (subst IsPlan (sym (take-append-drop (i + 1) rows)) c.requires))
