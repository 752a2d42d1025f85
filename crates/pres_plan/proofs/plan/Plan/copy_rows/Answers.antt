use Rattle.std.proofs.Common.{◌+◌, ◌++◌, ◌∷◌, [], sym, ◌∙◌, ap, drop, append_assoc, append-nil}
use Rattle.std.specs.Map.{values_of}
use Rattle.std.proofs.Math.ListN.{drop_of_length-le}
use Rattle.std.proofs.lemmas.List.{drop_more}
use Rattle.pres_plan.proofs.plan.Plan.copy_rows.Goals as goal

pub loop-row-init : goal.loop-row-init
loop-row-init c = ap (λ l. l ++ values_of c.as_slice-row-items.result.now) c.in_ok-made.ensures.items

pub loop-row-preserved : goal.loop-row-preserved
loop-row-preserved c =
    let rows = c.as_slice-row-items.result.now in
    let i = c.loop-row.row-index in
    let row = c.loop-row-item.result in
    let made = c.loop-row.made.items in
    let rest = values_of (drop (i + 1) rows) in
    let more = drop_more rows i row c.loop-row-test.true ∙ ap (λ e. e ∷ drop (i + 1) rows) (sym c.loop-row-item.is) in
    ap (λ l. l ++ rest) c.in_ok-push.ensures.items
    ∙ append_assoc made (c.in_ok-copy.field-0 ∷ []) rest
    ∙ ap (λ x. made ++ x ∷ rest) c.in_ok-copy.ensures
    ∙ ap (λ es. made ++ values_of es) (sym more)
    ∙ c.loop-row.invariant

pub returns-clause-rows : goal.returns-clause-rows
returns-clause-rows c =
    let rows = c.as_slice-row-items.result.now in
    let made = c.loop-row.made.items in
    sym (append-nil made)
    ∙ ap (λ es. made ++ values_of es) (sym (drop_of_length-le rows c.loop-row-test.false))
    ∙ c.loop-row.invariant
    ∙ ap values_of c.as_slice-row-items.ensures
    ∙ c.self.view_is
