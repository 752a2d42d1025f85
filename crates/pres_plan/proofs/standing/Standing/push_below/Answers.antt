use Rattle.std.proofs.Common.{◌+◌, ◌++◌, ◌∷◌, [], sym, ◌∙◌, ap, refl, map, drop, append_assoc, append-nil}
use Rattle.std.proofs.Math.ListN.{drop_of_length-le}
use Rattle.std.proofs.lemmas.List.{drop_more}
use Rattle.pres_tree.specs.Paths.{Path}
use Rattle.pres_plan.specs.declared.places.Spot.{Spot}
use Rattle.pres_plan.proofs.standing.Standing.push_below.Goals as goal

pub loop-spot-init : goal.loop-spot-init
loop-spot-init c = refl

pub loop-spot-preserved : goal.loop-spot-preserved
loop-spot-preserved c =
    let spots = c.below-spot-items.result.now in
    let i = c.loop-spot.spot-index in
    let spot = c.loop-spot-item.result in
    let numbers = c.loop-spot.numbers.items in
    let rest = map (λ (e : Path × Spot). e.1.row) (drop (i + 1) spots) in
    let more = drop_more spots i spot c.loop-spot-test.true ∙ ap (λ e. e ∷ drop (i + 1) spots) (sym c.loop-spot-item.is) in
    ap (λ l. l ++ rest) c.in_ok-push.ensures.items
    ∙ append_assoc numbers (spot.1.row ∷ []) rest
    ∙ ap (λ es. numbers ++ map (λ (e : Path × Spot). e.1.row) es) (sym more)
    ∙ c.loop-spot.invariant

pub returns-clause-numbers : goal.returns-clause-numbers
returns-clause-numbers c =
    let spots = c.below-spot-items.result.now in
    let numbers = c.loop-spot.numbers.items in
    sym (append-nil numbers)
    ∙ ap (λ es. numbers ++ map (λ (e : Path × Spot). e.1.row) es) (sym (drop_of_length-le spots c.loop-spot-test.false))
    ∙ c.loop-spot.invariant
    ∙ ap (λ es. c.args.numbers.now.items ++ map (λ (e : Path × Spot). e.1.row) es) c.below-spot-items.ensures.entries
