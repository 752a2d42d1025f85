use Rattle.std.proofs.Common.{◌≡◌, ◌∙◌, [], ◌∷◌, List, Some, Option, ap, sym, subst}
use Rattle.pres_server.specs.declared.input.Input.{Input}
use Rattle.pres_server.specs.SumStates.{SumState}
use Rattle.pres_server.specs.Groups.{MakeBatches}
use Rattle.pres_server.specs.Histories.{LeadsTo}
use Rattle.pres_keeper.specs.Engines.{IsHistoryOf}
use Rattle.pres_keeper.specs.EngineGroups.{KeepsOn, TurnsFirst}
use Rattle.pres_keeper.proofs.Filled.{all_made}
use Rattle.pres_keeper.proofs.Turned.{first_of}
use Rattle.pres_keeper.proofs.engine.Engine.turn_some.Goals as goal

pub returns-clause-turned : goal.returns-clause-turned
returns-clause-turned g c = rw (← c.self.view_is) (λ history leads.
    let K = g.K.Keeper in
    let server = c.in-Some-take.server in
    let was : Some server ≡ c.self.inside.server = c.in-Some-take.ensures.value in
    let first = c.in-Some.input in
    let fills = c.fill.ensures.fills in
    let end = c.carry_out_all.new in
    let all = all_made server c.new-group.result c.add.new.self c.fill.new.group first c.pop_front.new.self.items c.fill.new.queue.items c.args.now c.new-group.ensures c.in_default-add.ensures.joins fills in
    let inputs : List Input = first ∷ fills.taken in
    let told = c.args.results.now.items in
    let same : Some c.fill.new.group.state ≡ c.self.inside.server = ◌∙◌ {A = Option SumState} (ap Some all.0) was in
    let makes : LeadsTo history server.sum = subst (IsHistoryOf history) (sym was) leads in
    first_of K.works K.keeps K.outlasts c.self.inside.keeper end.self.keeper c.self.inside.server end.self.server history c.args.queue.now.items inputs c.fill.new.queue.items told end.results.items c.args.now
    (◌∙◌ {A = List Input} c.in-Some.ensures.items (ap (λ (l : List Input). first ∷ l) fills.queue))
    (subst (λ (o : Option SumState). TurnsFirst (KeepsOn K.works K.keeps K.outlasts c.self.inside.keeper end.self.keeper end.self.server history) o history inputs told c.args.now end.self.server [] end.results.items)
    same
    (c.carry_out_all.ensures.turned history inputs c.args.now (subst (λ (s : SumState). LeadsTo history s.sum) (sym all.0) makes)
    (subst (λ (s : SumState). MakeBatches s inputs c.args.now c.fill.new.group.batches) (sym all.0) all.1))))
