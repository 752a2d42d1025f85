use Rattle.std.proofs.Common.{◌≡◌, ◌++◌, ◌≤◌, sym, ◌∙◌, subst, length}
use Rattle.std.proofs.lemmas.List.{map-id}
use Rattle.std.proofs.lemmas.List.Elements.{All-get_or}
use Rattle.std.proofs.lemmas.Iterator.Adapters.{YieldsList-from_vec}
use Rattle.std.proofs.lemmas.Iterator.Consumers.{YieldsList-turn, YieldsList-so_far}
use Rattle.pres_tree.specs.Paths.{Path}
use Rattle.pres_plan.specs.declared.standing.Arrival.{Arrival}
use Rattle.pres_plan.specs.Plans.{path_of}
use Rattle.pres_plan.specs.Standing.{Entries, numbers_at}
use Rattle.pres_plan.proofs.Arrivals.{at_turn, one_stands}
use Rattle.pres_plan.proofs.standing.Standing.add_all.Goals as goal

pub add-requires-clause-one : goal.add-requires-clause-one
add-requires-clause-one c =
    let all = c.args.new.items in
    let done = c.loop-arrival.yielded in
    let x = c.in-Some.arrival in
    let given = c.into_iter-arrival-iterator.ensures.into_iter_gives in
    let road = YieldsList-from_vec {s = c.into_iter-arrival-iterator.result} all given.0 (given.1 ∙ c.args.new.ok.0) in
    let turn = YieldsList-turn road done c.loop-arrival.arrival-iterator c.loop-arrival.yielded_by c.next.result c.next.new.self x c.in-Some.is c.next.ensures.steps in
    let so_far = sym (map-id done) ∙ YieldsList-so_far road done c.loop-arrival.arrival-iterator c.loop-arrival.yielded_by in
    let placed : x.place ≡ path_of x.row.action =
    subst (λ (a : Arrival). a.place ≡ path_of a.row.action) (sym turn.1) (All-get_or (λ (a : Arrival). a.place ≡ path_of a.row.action) all (length done) x turn.0 c.requires.places) in
    let more = c.loop-arrival.invariant.rows in
    subst (λ (es : Entries). length (numbers_at x.place es) ≤ 1) (sym more.1)
    (subst (λ (p : Path). length (numbers_at p (c.args.self.now.rows ++ more.0)) ≤ 1)
    (sym placed)
    (one_stands c.args.self.now.rows more.0 all done x c.requires.plan more.2 c.requires.apart (at_turn all done x so_far turn.0 turn.1)))
