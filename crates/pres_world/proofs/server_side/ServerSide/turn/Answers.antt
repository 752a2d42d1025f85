use Rattle.std.proofs.Common.{◌≡◌, ◌∙◌, sym, ap, subst, inl, inr, arith}
use Rattle.std.proofs.lemmas.Grind.{common_steps}
use Rattle.std.proofs.lemmas.Result.{on_ok_weaker, IfErr-weaker}
use Rattle.pres_server.specs.SumTurns.{IsTurn, turn_by, moment_by}
use Rattle.pres_server.specs.Turns.{refused}
use Rattle.pres_world.specs.declared.event.Ending.TheVariants as ending
use Rattle.pres_world.specs.ServerSides.{base_sum, of_log, served}
use Rattle.pres_world.proofs.Held.{begun, makes_so, stops_so, quiet_so, back_so, refused_stops, refused_told}
use Rattle.pres_world.proofs.server_side.ServerSide.turn.Goals as goal

pub returns-in-Ok-Busy-clause-ok : goal.returns-in-Ok-Busy-clause-ok
returns-in-Ok-Busy-clause-ok c =
    let here = c.args.self.now in
    let log = c.self.inside.history.items in
    let base = base_sum c.self.inside.base in
    let downs = c.self.inside.downs.items in
    let s = c.in-Some.server in
    let b = begun here log base c.self.inside.server downs s c.self.view_is c.self.invariant c.in-Some.ensures.value in
    let t = subst (IsTurn s c.args.input c.args.now) c.in-Ok-Busy.field-0-is c.in-Ok-Busy.ensures.turn in
    on_ok_weaker c.settle.result (λ h. h c.args.input c.in-Ok.ensures ∙ makes_so here log base downs s b c.args.input c.args.now c.args.ending c.in-Ok-Busy.busy t) c.settle.ensures.ok

pub returns-in-Ok-Busy-clause-err : goal.returns-in-Ok-Busy-clause-err
returns-in-Ok-Busy-clause-err c =
    let here = c.args.self.now in
    let log = c.self.inside.history.items in
    let base = base_sum c.self.inside.base in
    let downs = c.self.inside.downs.items in
    let s = c.in-Some.server in
    let b = begun here log base c.self.inside.server downs s c.self.view_is c.self.invariant c.in-Some.ensures.value in
    let t = subst (IsTurn s c.args.input c.args.now) c.in-Ok-Busy.field-0-is c.in-Ok-Busy.ensures.turn in
    IfErr-weaker c.settle.result _ _
    (λ e h. (
      h.0,
      elim h.1 [
        | inl is ↦ inl (is ∙ back_so here log base downs s b c.args.input c.args.now c.in-Ok-Busy.busy.state t.1)
        | inr is ↦ inr (is ∙ stops_so here log base downs s b c.args.input c.args.now c.in-Ok-Busy.busy c.take.new.self t c.take.ensures.after)
      ],
    ))
    c.settle.ensures.err

pub returns-in-Ok-Quiet-clause-ok : goal.returns-in-Ok-Quiet-clause-ok
returns-in-Ok-Quiet-clause-ok c =
    let here = c.args.self.now in
    let log = c.self.inside.history.items in
    let base = base_sum c.self.inside.base in
    let downs = c.self.inside.downs.items in
    let s = c.in-Some.server in
    let b = begun here log base c.self.inside.server downs s c.self.view_is c.self.invariant c.in-Some.ensures.value in
    let t = subst (IsTurn s c.args.input c.args.now) c.in-Ok-Quiet.field-0-is c.in-Ok-Quiet.ensures.turn in
    c.run_on.ensures (of_log log s) (moment_by s.sum c.args.now) c.args.input (ap (of_log log) t.1)
    ∙ quiet_so here log base downs s b c.args.input c.args.now c.args.ending c.in-Ok-Quiet.server c.in-Ok-Quiet.answers t

pub returns-then-eq : goal.returns-then-eq
returns-then-eq c =
    let here = c.args.self.now in
    let log = c.self.inside.history.items in
    let base = base_sum c.self.inside.base in
    let downs = c.self.inside.downs.items in
    let s = c.in-Some.server in
    let b = begun here log base c.self.inside.server downs s c.self.view_is c.self.invariant c.in-Some.ensures.value in
    let decided : turn_by s c.args.input c.args.now ≡ refused c.in-Err.fault = grind (arith, common_steps) in
    let stopped : c.args.ending ≡ ending.Stopped = grind (arith, common_steps) in
    record {
      ok =
          refused_stops here log base downs s b c.args.input c.args.now c.in-Err.fault c.take.new.self decided c.take.ensures.after
          ∙ ap (served here c.args.input c.args.now) (sym stopped);
      err = tt;
    }

pub returns-else-eq : goal.returns-else-eq
returns-else-eq c =
    let here = c.args.self.now in
    let log = c.self.inside.history.items in
    let base = base_sum c.self.inside.base in
    let downs = c.self.inside.downs.items in
    let s = c.in-Some.server in
    let b = begun here log base c.self.inside.server downs s c.self.view_is c.self.invariant c.in-Some.ensures.value in
    let decided : turn_by s c.args.input c.args.now ≡ refused c.in-Err.fault = grind (arith, common_steps) in
    let goes : c.args.ending ≡ ending.Stopped → ⊥ = λ is. grind (arith, common_steps) in
    record {
      ok =
          on_ok_weaker c.refuse.result
          (λ h. h ∙ refused_told here log base downs s b c.args.input c.args.now c.args.ending c.in-Err.fault c.in-Err.server c.in-Ok.session c.code.result goes decided c.in-Err.ensures.unchanged c.in-Ok.ensures c.code.ensures)
          c.refuse.ensures.ok;
      err =
          IfErr-weaker c.refuse.result _ _ (λ e h. (h.0, inl (h.1 ∙ back_so here log base downs s b c.args.input c.args.now c.in-Err.server c.in-Err.ensures.unchanged))) c.refuse.ensures.err;
    }
