use Rattle.std.proofs.Common.{◌≡◌, ◌+◌, ◌++◌, ◌∷◌, [], take, max, sym, ap, ap₂, ◌∙◌, rules, arith}
use Rattle.std.proofs.lemmas.List.{take_more}
use Rattle.pres_batch_rows.specs.TableOpening.{greatest_in}
use Rattle.pres_batch_rows.proofs.Finding.{greatest_push}
use Rattle.pres_batch_rows.proofs.last.greatest.Goals as goal

pub loop-row-preserved : goal.loop-row-preserved
loop-row-preserved c =
    let rows = c.args.rows.now in
    let at = c.loop-row.row-index in
    let row = c.row-item.result in
    let number = c.in_ok-number_in.ensures in
    let was = c.loop-row.invariant in
    let last : c.max-greatest.result ≡ max c.loop-row.greatest c.in_ok-number_in.field-0 = search rules in
    let more : take (at + 1) rows ≡ take at rows ++ row ∷ [] = take_more rows at row c.loop-row-test.true ∙ ap (λ r. take at rows ++ r ∷ []) (sym c.row-item.is) in (
      last ∙ ap₂ max was.0 number.0 ∙ sym (greatest_push (take at rows) row) ∙ ap greatest_in (sym more),
      omega (arith, was.1, number.2, last),
    )
