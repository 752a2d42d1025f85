use Rattle.std.proofs.Common.{◌≡◌, ◌∙◌, ◌++◌, ap, refl, arith}
use Rattle.std.proofs.lemmas.Grind.{common_steps}
use Rattle.pres_server.specs.SumAnswers.{answers_by}
use Rattle.pres_server.specs.SumStates.{SumState}
use Rattle.pres_server.specs.SumTurns.{after_commit}
use Rattle.pres_world.specs.ServerSides.{ServerSideState, base_sum}
use Rattle.pres_world.proofs.Held.{viewed, runs_holds, runs_view}
use Rattle.pres_world.proofs.server_side.ServerSide.finish.Goals as goal

pub invariant_of-self-2 : goal.invariant_of-self-2
invariant_of-self-2 c =
    runs_holds c.self.inside.history.items c.args.self.now.history (base_sum c.self.inside.base) c.self.inside.server c.replace.new.self c.in-Ok.server c.self.invariant (ap (λ (w : ServerSideState). w.history) c.self.view_is) c.replace.ensures.after
    (ap (λ (s : SumState). s.sum) c.in-Ok.ensures.server ∙ c.requires.sum)

pub returns-clause-ok : goal.returns-clause-ok
returns-clause-ok c =
    let busy = c.args.busy in
    let told : c.append.new.self.items ≡ c.args.self.now.downs ++ answers_by busy.state.sum busy.made = grind (arith, common_steps) in
    runs_view c.self.inside.history.items c.args.self.now.history (base_sum c.self.inside.base) c.args.self.now.base c.replace.new.self c.in-Ok.server (after_commit busy.state busy.moment busy.made) c.append.new.self.items (c.args.self.now.downs ++ answers_by busy.state.sum busy.made)
    (ap (λ (w : ServerSideState). w.history) c.self.view_is) (ap (λ (w : ServerSideState). w.base) c.self.view_is) c.replace.ensures.after c.in-Ok.ensures.server told

pub returns-then-is_err-clause-err : goal.returns-then-is_err-clause-err
returns-then-is_err-clause-err c =
    let same : c.append.new.self.items ≡ c.self.inside.downs.items = grind (arith, common_steps) in
    (refl, ap (viewed c.self.inside.history.items (base_sum c.self.inside.base) c.self.inside.server) same ∙ c.self.view_is)
