use Rattle.std.proofs.Common.{◌≡◌, refl, ◌∙◌, true, Some, subst, IfSome, arith}
use Rattle.pres_server.specs.ServerStates.{first_client}
use Rattle.pres_server.specs.Sums.{has_open_in}
use Rattle.pres_keeper.specs.Engines.{Runs}
use Rattle.pres_dispatch.specs.Dispatches.{StopsAtStart, history_restarted}
use Rattle.pres_dispatch.proofs.Closed.{one_more}
use Rattle.pres_dispatch.proofs.Ended.{passed_on, stops_before, stops_at}
use Rattle.pres_dispatch.proofs.Since.{restarted_first, restarted_more, restarted_last}
use Rattle.pres_dispatch.proofs.dispatcher.end_all.Goals as goal

pub loop-client-init : goal.loop-client-init
loop-client-init g c = (λ w. w, restarted_first g.K.Keeper.works g.K.Keeper.keeps c.args.now c.args.engine.now, refl)

pub loop-client-smaller : goal.loop-client-smaller
loop-client-smaller g c =
    let has = subst (λ o. IfSome o (λ k. Runs (λ s. has_open_in k s.sum ≡ true) c.loop-client.engine.server)) c.in-Some.is c.in_ok-client.ensures.open in
    let more = one_more c.loop-client.engine.server c.turn-turned.new.self.server c.in-Some.client c.args.now
    c.loop-client.engine.number c.turn-turned.new.self.number c.in_ok-turned.field-0 has c.in_ok-turned.ensures.turned c.number.ensures.summed c.in_ok-client.ensures.counted c.number.ensures.counted in
    omega (arith, more.0, more.1)

pub loop-client-preserved : goal.loop-client-preserved
loop-client-preserved g c =
    let first = subst (λ o. IfSome o (λ k. Runs (λ s. first_client s.heard ≡ Some k) c.loop-client.engine.server)) c.in-Some.is c.in_ok-client.ensures.first in
    let turned = c.in_ok-turned.ensures in (
      λ w. c.loop-client.invariant.0 (c.turn-turned.ensures.worked w),
      restarted_more g.K.Keeper.works g.K.Keeper.keeps c.args.now c.args.engine.now c.loop-client.engine c.turn-turned.new.self c.in-Some.client c.in_ok-turned.field-0 c.loop-client.invariant.1 first turned.turned c.turn-turned.ensures.worked turned.leads turned.kept,
      c.turn-turned.ensures.base ∙ c.loop-client.invariant.2,
    )

pub returns-clause-ended : goal.returns-clause-ended
returns-clause-ended g c = (restarted_last g.K.Keeper.works g.K.Keeper.keeps c.args.now c.args.engine.now c.loop-client.engine c.loop-client.invariant.1).0

pub returns-clause-kept : goal.returns-clause-kept
returns-clause-kept g c = λ history is w k.
    let last = restarted_last g.K.Keeper.works g.K.Keeper.keeps c.args.now c.args.engine.now c.loop-client.engine c.loop-client.invariant.1 in
    let held = last.1 history is w k in
    (last.0, held.0, held.1)

pub returns-in_err-client-clause-stopped : goal.returns-in_err-client-clause-stopped
returns-in_err-client-clause-stopped g c = λ history is w k.
    let keeps = g.K.Keeper.keeps c.loop-client.engine.keeper in
    let server = c.loop-client.engine.server in
    let last = restarted_last g.K.Keeper.works g.K.Keeper.keeps c.args.now c.args.engine.now c.loop-client.engine c.loop-client.invariant.1 in
    passed_on c.from_residual.result c.in_err-client.field-0.0 (StopsAtStart keeps c.args.now history c.args.engine.now.server) c.from_residual.ensures.1
    (stops_before keeps c.args.now history c.args.engine.now.server server c.in_err-client.field-0.0 last.0 c.in_err-client.ensures.refused (last.1 history is w k).1)

pub returns-in_err-turned-clause-stopped : goal.returns-in_err-turned-clause-stopped
returns-in_err-turned-clause-stopped g c = λ history is w k.
    let new = c.turn-turned.new.self in
    let keeps = g.K.Keeper.keeps new.keeper in
    let server = c.loop-client.engine.server in
    let first = subst (λ o. IfSome o (λ x. Runs (λ s. first_client s.heard ≡ Some x) server)) c.in-Some.is c.in_ok-client.ensures.first in
    let last = restarted_last g.K.Keeper.works g.K.Keeper.keeps c.args.now c.args.engine.now c.loop-client.engine c.loop-client.invariant.1 in
    let held = last.1 history is (c.turn-turned.ensures.worked w) k in
    passed_on c.from_residual-in_err-turned.result c.in_err-turned.field-0.0 (StopsAtStart keeps c.args.now history c.args.engine.now.server) c.from_residual-in_err-turned.ensures.1
    (stops_at keeps c.args.now history c.args.engine.now.server server new.server c.in-Some.client c.in_err-turned.field-0.0 last.0 first c.in_err-turned.ensures.refused
    (c.in_err-turned.ensures.kept (history_restarted history last.0) held.0 w held.1))
