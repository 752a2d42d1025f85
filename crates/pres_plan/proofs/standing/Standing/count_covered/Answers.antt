use Rattle.std.proofs.Common.{◌≡◌, ◌+◌, ◌++◌, ◌∷◌, [], sym, ◌∙◌, ap, map, filter, length, take, drop, arith}
use Rattle.std.specs.List.{list_any}
use Rattle.std.specs.Map.{values_of}
use Rattle.std.proofs.lemmas.List.{take_more, take_all, take-append-drop, drop_more}
use Rattle.pres_tree.specs.Paths.{is_prefix, overlap}
use Rattle.pres_plan.specs.Plans.{path_of}
use Rattle.pres_plan.proofs.Steps.{length-kept}
use Rattle.pres_plan.proofs.Covered.{count_more, none_covered}
use Rattle.pres_plan.proofs.standing.Standing.count_covered.Goals.{After-count_below-count}
use Rattle.pres_plan.proofs.standing.Standing.count_covered.Goals as goal

pub loop-placement-init : goal.loop-placement-init
loop-placement-init c = sym (none_covered (values_of c.args.self.now.rows))

step : (c : After-count_below-count) → c.loop-placement.count + c.count_below-count.result
    ≡ length (filter (λ row. list_any (λ p. is_prefix p.0 (path_of row.action)) (take (c.loop-placement.placement-index + 1) c.args.placements.now)) (values_of c.args.self.now.rows))
step c =
    let ps = c.args.placements.now in
    let i = c.loop-placement.placement-index in
    let p = c.placement-item.result in
    let rows = values_of c.args.self.now.rows in
    let more = take_more ps i p c.loop-placement-test.true ∙ ap (λ q. take i ps ++ q ∷ []) (sym c.placement-item.is) in
    let all = sym (take-append-drop i ps) ∙ ap (λ l. take i ps ++ l) (drop_more ps i p c.loop-placement-test.true ∙ ap (λ q. q ∷ drop (i + 1) ps) (sym c.placement-item.is)) in
    (λ j. c.loop-placement.invariant j + (c.count_below-count.ensures ∙ ap (λ q. length (filter (λ row. is_prefix q (path_of row.action)) rows)) c.path.ensures.path) j)
    ∙ sym (count_more (take i ps) p (drop (i + 1) ps) rows (ap (λ l. overlap (map (λ q. q.0) l)) (sym all) ∙ c.requires.apart))
    ∙ ap (λ l. length (filter (λ row. list_any (λ q. is_prefix q.0 (path_of row.action)) l) rows)) (sym more)

pub overflow_add-count : goal.overflow_add-count
overflow_add-count c =
    let rows = values_of c.args.self.now.rows in
    let few = c.requires.standing.plan.few in
    omega (arith, step c, few, length-kept (λ row. list_any (λ p. is_prefix p.0 (path_of row.action)) (take (c.loop-placement.placement-index + 1) c.args.placements.now)) rows)

pub loop-placement-preserved : goal.loop-placement-preserved
loop-placement-preserved c = step c

pub returns : goal.returns
returns c =
    c.loop-placement.invariant
    ∙ ap (λ l. length (filter (λ row. list_any (λ p. is_prefix p.0 (path_of row.action)) l) (values_of c.args.self.now.rows))) (take_all c.loop-placement.placement-index c.args.placements.now c.loop-placement-test.false)
