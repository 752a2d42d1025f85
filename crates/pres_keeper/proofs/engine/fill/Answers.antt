use Rattle.std.proofs.Common.{[], ◌∷◌, ap, length, length-append, arith}
use Rattle.pres_server.specs.Groups.{PendingGroup}
use Rattle.pres_keeper.proofs.Filled.{fills_more}
use Rattle.pres_keeper.proofs.engine.fill.Goals as goal

pub inputs-preserved : goal.inputs-preserved
inputs-preserved c =
    let joins = c.in_default-add.ensures.joins in
    let more = ap (λ (g : PendingGroup). length g.batches) joins.2 in
    record {
      fills = fills_more c.args.group.now c.inputs.group c.add.new.self c.args.queue.now.items c.inputs.queue.items c.pop_front.new.self.items c.in-Some.input c.args.now c.inputs.invariant.fills c.in-Some.ensures.items joins;
      counted = omega (arith, more, length-append c.inputs.group.batches (joins.0 ∷ []), c.in-Some.ensures.cases, c.inputs.invariant.counted);
    }
