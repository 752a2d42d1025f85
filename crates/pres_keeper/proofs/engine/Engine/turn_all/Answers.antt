use Rattle.std.proofs.Common.{[], List, refl, sym, ◌∙◌, subst, arith}
use Rattle.pres_server.specs.declared.input.Input.{Input}
use Rattle.pres_keeper.specs.EngineGroups.{TurnResult, KeepsOn, TurnsFirst}
use Rattle.pres_keeper.proofs.Turned.{none_first, more_first}
use Rattle.pres_keeper.proofs.engine.Engine.turn_all.Goals as goal

pub turns-init : goal.turns-init
turns-init g c =
    let K = g.K.Keeper in
    let start = c.args.self.now in
    record {
      turned = λ history leads.
          subst (λ (p : List Input × List TurnResult). TurnsFirst (KeepsOn K.works K.keeps K.outlasts start.keeper start.keeper start.server history) start.server history c.args.inputs.items [] c.args.now start.server p.0 p.1)
          (λ i. (sym c.from_vec-queue.ensures.items i, sym c.in-Ok.ensures.items i))
          (none_first K.works K.keeps K.outlasts start.keeper start.server history c.args.inputs.items [] c.args.now leads);
      room = omega (arith, c.from_vec-queue.ensures.len, c.in-Ok.ensures.len, c.in-Ok.ensures.capacity);
      rises = omega arith;
      base = refl;
      worked = λ works. works;
      outlasts = λ history outlasts. outlasts;
    }

pub turns-preserved : goal.turns-preserved
turns-preserved g c =
    let K = g.K.Keeper in
    let start = c.args.self.now in
    let was = c.turns.invariant in
    let step = c.turn_some.ensures in
    record {
      turned = λ history leads.
          let first = was.turned history leads in
          more_first K.works K.keeps K.outlasts start.keeper c.turns.self.keeper c.turn_some.new.self.keeper start.server c.turns.self.server c.turn_some.new.self.server history c.args.inputs.items c.turns.queue.items c.turn_some.new.queue.items [] c.turns.results.items c.turn_some.new.results.items c.args.now was.worked step.worked first
          (step.turned first.turns.end first.turns.leads);
      room = step.room;
      rises = omega (arith, was.rises, step.rises);
      base = step.base ∙ was.base;
      worked = λ works. was.worked (step.worked works);
      outlasts = λ history outlasts. step.outlasts history (was.outlasts history outlasts);
    }
