use Rattle.std.proofs.Common.{◌≡◌, ◌∙◌, ◌<◌, ◌++◌, ◌∷◌, [], sym, ap, subst, rules}
use Rattle.pres_server.specs.declared.input.Input.TheVariants as input
use Rattle.pres_server.specs.SumStates.{SumState}
use Rattle.pres_server.specs.SumTurns.{IsTurn, FollowsSum, batch_by, after_commit}
use Rattle.pres_world.proofs.Ended.{never_quiet, more, IsEnded, one_ended}
use Rattle.pres_world.proofs.server_side.end_one.Goals as goal

pub unreachable-requires : goal.unreachable-requires
unreachable-requires c =
    let turned = subst (IsTurn c.args.server (input.Restart c.args.client) c.args.now) c.in-Ok-Quiet.field-0-is c.in-Ok-Quiet.ensures.turn in
    never_quiet c.args.server c.args.client c.args.now c.requires turned.0

-- what the turn made
ended : (c : goal.After-drop-in-Ok) → IsEnded c.args.server c.args.client c.args.now c.in-Ok-Busy.busy.moment c.in-Ok-Busy.busy.made c.batch.result.now
ended c =
    let busy = c.in-Ok-Busy.busy in
    let batch = c.batch.result.now in
    let turned = subst (IsTurn c.args.server (input.Restart c.args.client) c.args.now) c.in-Ok-Busy.field-0-is c.in-Ok-Busy.ensures.turn in
    record {
      made = turned.0;
      moment = turned.2;
      follows = subst (λ (s : SumState). FollowsSum s.sum batch) turned.1 c.batch.ensures.follows;
      batch_is = c.batch.ensures.made ∙ ap (λ (s : SumState). batch_by s.sum busy.moment busy.made) turned.1;
    }

done : (c : goal.After-drop-in-Ok) → c.in-Ok.server ≡ after_commit c.args.server c.in-Ok-Busy.busy.moment c.in-Ok-Busy.busy.made
done c =
    let busy = c.in-Ok-Busy.busy in
    let turned = subst (IsTurn c.args.server (input.Restart c.args.client) c.args.now) c.in-Ok-Busy.field-0-is c.in-Ok-Busy.ensures.turn in
    c.in-Ok.ensures.server ∙ ap (λ s. after_commit s busy.moment busy.made) turned.1

pub returns-in-Ok-clause-ended : goal.returns-in-Ok-clause-ended
returns-in-Ok-clause-ended c =
    let busy = c.in-Ok-Busy.busy in
    let kept : c.keep.new.batches.items ≡ c.args.ended.now.items ++ c.batch.result.now ∷ [] = search rules in
    one_ended c.args.server c.in-Ok.server c.args.client c.args.now busy.moment busy.made c.batch.result.now c.args.ended.now.items c.keep.new.batches.items (ended c) kept (done c)

pub returns-in-Ok-clause-more : goal.returns-in-Ok-clause-more
returns-in-Ok-clause-more c =
    let busy = c.in-Ok-Busy.busy in
    subst (λ (s : SumState). c.args.server.sum.number < s.sum.number) (sym (done c)) (more c.args.server busy.moment busy.made c.batch.result.now (ended c).follows (ended c).batch_is)
