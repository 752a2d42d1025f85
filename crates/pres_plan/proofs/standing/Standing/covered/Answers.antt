use Rattle.std.proofs.Common.{◌≡◌, ◌++◌, ◌∷◌, [], false, ◌||◌, true, Bool, eqb, refl, sym, ◌∙◌, ap, take}
use Rattle.std.specs.List.{list_any}
use Rattle.std.proofs.lemmas.List.{take_more, take_all}
use Rattle.std.proofs.lemmas.List.Folds.{list_any-append}
use Rattle.pres_plan.specs.Plans.{path_of}
use Rattle.pres_plan.specs.Standing.{numbers_below}
use Rattle.pres_plan.proofs.standing.Standing.covered.Goals as goal

pub loop-row-init : goal.loop-row-init
loop-row-init c = λ n. ap (list_any (λ m. eqb m n)) c.new-made.ensures.items

or_nothing : (b : Bool) → b ≡ (b || false)
or_nothing true = refl
or_nothing false = refl

pub loop-row-preserved : goal.loop-row-preserved
loop-row-preserved c = λ n.
    let rows = c.args.rows.now in
    let i = c.loop-row.row-index in
    let row = c.row-item.result in
    let spots = c.args.self.now.places in
    let more = take_more rows i row c.loop-row-test.true ∙ ap (λ q. take i rows ++ q ∷ []) (sym c.row-item.is) in
    ap (list_any (λ m. eqb m n)) c.in_ok-push_below.ensures.numbers
    ∙ list_any-append (λ m. eqb m n) c.loop-row.made.items (numbers_below c.path.result.now spots)
    ∙ (λ j. c.loop-row.invariant n j || (ap (λ y. list_any (λ m. eqb m n) (numbers_below y spots)) c.path.ensures ∙ or_nothing (list_any (λ m. eqb m n) (numbers_below (path_of row.action) spots))) j)
    ∙ sym (list_any-append (λ row. list_any (λ m. eqb m n) (numbers_below (path_of row.action) spots)) (take i rows) (row ∷ []))
    ∙ ap (list_any (λ row. list_any (λ m. eqb m n) (numbers_below (path_of row.action) spots))) (sym more)

pub returns-clause-numbers : goal.returns-clause-numbers
returns-clause-numbers c = λ n.
    c.loop-row.invariant n
    ∙ ap (list_any (λ row. list_any (λ m. eqb m n) (numbers_below (path_of row.action) c.args.self.now.places))) (take_all c.loop-row.row-index c.args.rows.now c.loop-row-test.false)
