use Rattle.std.proofs.Common.{sym, ◌∙◌, ap, subst}
use Rattle.pres_server.specs.declared.input.Input.TheVariants as input
use Rattle.pres_wire.specs.declared.up.Up.TheVariants as up
use Rattle.pres_keeper.specs.Engines.{IsHistoryOf}
use Rattle.pres_keeper.specs.EngineTurns.{IsTurnDone, history_turned}
use Rattle.pres_ring.specs.Lines.{line_at}
use Rattle.pres_dispatch.specs.Dispatches.{Histories, IsJoined, Stands, histories_turned}
use Rattle.pres_dispatch.proofs.Joined.{last_at, told_at, kept_at, joined_at, unplaced, placed_before}
use Rattle.pres_dispatch.proofs.Standing.{some_goes, stands_turned, stands_refused}
use Rattle.pres_dispatch.proofs.dispatcher.Dispatcher.join.Goals as goal
use Rattle.pres_dispatch.proofs.dispatcher.Dispatcher.join.Goals.{then-is_new, else-is_new}

pub welcome-requires-clause-last : goal.welcome-requires-clause-last
welcome-requires-clause-last g c =
    let old = c.self.inside.engine.server in
    let new = c.turn-turned.new.self.server in
    let s = c.args.session.now in
    let turned : IsTurnDone old (input.Up (up.Hello s)) c.args.now new c.in-Ok.answers = subst (λ u. IsTurnDone old (input.Up (up.Hello u)) c.args.now new c.in-Ok.answers) c.in_ok-copy.ensures c.in-Ok.ensures.turned in
    last_at g.K.Keeper.works g.K.Keeper.keeps (record { run = c.self.inside.engine; lines = c.self.inside.lines }) c.self.invariant new s c.args.now c.in-Ok.answers turned c.in_ok-opening.opening c.in_ok-opening.ensures

pub welcome-requires-clause-told : goal.welcome-requires-clause-told
welcome-requires-clause-told g c =
    let old = c.self.inside.engine.server in
    let new = c.turn-turned.new.self.server in
    let s = c.args.session.now in
    let turned : IsTurnDone old (input.Up (up.Hello s)) c.args.now new c.in-Ok.answers = subst (λ u. IsTurnDone old (input.Up (up.Hello u)) c.args.now new c.in-Ok.answers) c.in_ok-copy.ensures c.in-Ok.ensures.turned in
    told_at g.K.Keeper.works g.K.Keeper.keeps (record { run = c.self.inside.engine; lines = c.self.inside.lines }) c.self.invariant new s c.args.now c.in-Ok.answers turned c.reserve.new.self c.in_ok-is_new.ensures.line

pub invariant_of-self-in-Ok : goal.invariant_of-self-in-Ok
invariant_of-self-in-Ok g c =
    let old = c.self.inside.engine.server in
    let new = c.turn-turned.new.self in
    let s = c.args.session.now in
    let turned : IsTurnDone old (input.Up (up.Hello s)) c.args.now new.server c.in-Ok.answers = subst (λ u. IsTurnDone old (input.Up (up.Hello u)) c.args.now new.server c.in-Ok.answers) c.in_ok-copy.ensures c.in-Ok.ensures.turned in
    some_goes g.K.Keeper.works g.K.Keeper.keeps (record { run = c.self.inside.engine; lines = c.self.inside.lines }) (record { run = new; lines = c.welcome.new.lines }) (λ histories. histories_turned histories old (input.Up (up.Hello s)) c.args.now)
    (λ histories stands.
    stands_turned g.K.Keeper.works g.K.Keeper.keeps (record { run = c.self.inside.engine; lines = c.self.inside.lines }) (record { run = new; lines = c.welcome.new.lines }) c.turn-turned.ensures.worked histories (input.Up (up.Hello s)) c.args.now c.in-Ok.answers turned
    (subst (λ u. IsHistoryOf histories.kept old → IsHistoryOf (history_turned histories.kept old (input.Up (up.Hello u)) c.args.now) new.server) c.in_ok-copy.ensures (c.in-Ok.ensures.leads histories.kept))
    (subst (λ u. IsHistoryOf histories.kept old → g.K.Keeper.works new.keeper → g.K.Keeper.keeps c.self.inside.engine.keeper histories.kept
    → g.K.Keeper.keeps new.keeper (history_turned histories.kept old (input.Up (up.Hello u)) c.args.now)) c.in_ok-copy.ensures (c.in-Ok.ensures.kept histories.kept))
    c.number.ensures.counted
    (kept_at g.K.Keeper.works g.K.Keeper.keeps (record { run = c.self.inside.engine; lines = c.self.inside.lines }) c.self.invariant new.server s c.args.now c.in-Ok.answers turned c.reserve.new.self c.in_ok-is_new.ensures.line
    histories c.in_ok-opening.opening c.in_ok-opening.ensures c.welcome.new.lines c.welcome.result c.welcome.ensures.lines)
    stands)
    c.self.invariant

pub invariant_of-self-then-is_new : goal.invariant_of-self-then-is_new
invariant_of-self-then-is_new g c =
    some_goes g.K.Keeper.works g.K.Keeper.keeps (record { run = c.self.inside.engine; lines = c.self.inside.lines }) (record { run = c.turn-turned.new.self; lines = c.remove.new.self }) (λ histories. histories)
    (λ histories stands.
    stands_refused g.K.Keeper.works g.K.Keeper.keeps (record { run = c.self.inside.engine; lines = c.self.inside.lines }) (record { run = c.turn-turned.new.self; lines = c.remove.new.self }) c.turn-turned.ensures.worked histories _ c.args.now c.in-Err.fault
    c.in-Err.ensures.refused (c.in-Err.ensures.kept histories.kept) c.in-Err.ensures.stays
    (unplaced c.args.session.now c.self.inside.lines c.reserve.new.self c.remove.new.self (sym c.in_ok-is_new.ensures.new ∙ c.if-is_new.true) c.in_ok-is_new.ensures.line c.remove.ensures.line) stands)
    c.self.invariant

pub invariant_of-self-else-is_new : goal.invariant_of-self-else-is_new
invariant_of-self-else-is_new g c =
    some_goes g.K.Keeper.works g.K.Keeper.keeps (record { run = c.self.inside.engine; lines = c.self.inside.lines }) (record { run = c.turn-turned.new.self; lines = c.reserve.new.self }) (λ histories. histories)
    (λ histories stands.
    stands_refused g.K.Keeper.works g.K.Keeper.keeps (record { run = c.self.inside.engine; lines = c.self.inside.lines }) (record { run = c.turn-turned.new.self; lines = c.reserve.new.self }) c.turn-turned.ensures.worked histories _ c.args.now c.in-Err.fault
    c.in-Err.ensures.refused (c.in-Err.ensures.kept histories.kept) c.in-Err.ensures.stays
    (placed_before c.args.session.now c.self.inside.lines c.reserve.new.self (sym c.in_ok-is_new.ensures.new ∙ c.if-is_new.false) c.in_ok-is_new.ensures.line) stands)
    c.self.invariant

pub returns-in-Ok-clause-joined : goal.returns-in-Ok-clause-joined
returns-in-Ok-clause-joined g c =
    let old = c.self.inside.engine.server in
    let new = c.turn-turned.new.self.server in
    let s = c.args.session.now in
    let turned : IsTurnDone old (input.Up (up.Hello s)) c.args.now new c.in-Ok.answers = subst (λ u. IsTurnDone old (input.Up (up.Hello u)) c.args.now new c.in-Ok.answers) c.in_ok-copy.ensures c.in-Ok.ensures.turned in
    subst (λ x. IsJoined s c.args.now x.run.server new x.lines c.welcome.new.lines c.welcome.result) c.self.view_is
    (joined_at g.K.Keeper.works g.K.Keeper.keeps (record { run = c.self.inside.engine; lines = c.self.inside.lines }) c.self.invariant new s c.args.now c.in-Ok.answers turned c.reserve.new.self c.in_ok-is_new.ensures.line
    c.in_ok-opening.opening c.in_ok-opening.ensures c.welcome.new.lines c.welcome.result c.welcome.ensures.lines)

pub returns-in-Ok-clause-stands : goal.returns-in-Ok-clause-stands
returns-in-Ok-clause-stands g c =
    let old = c.self.inside.engine.server in
    let new = c.turn-turned.new.self in
    let s = c.args.session.now in
    let turned : IsTurnDone old (input.Up (up.Hello s)) c.args.now new.server c.in-Ok.answers = subst (λ u. IsTurnDone old (input.Up (up.Hello u)) c.args.now new.server c.in-Ok.answers) c.in_ok-copy.ensures c.in-Ok.ensures.turned in
    subst (λ x. (histories : Histories) → Stands g.K.Keeper.works g.K.Keeper.keeps histories x
    → Stands g.K.Keeper.works g.K.Keeper.keeps (histories_turned histories x.run.server (input.Up (up.Hello s)) c.args.now) (record { run = new; lines = c.welcome.new.lines })) c.self.view_is
    (λ histories stands.
    stands_turned g.K.Keeper.works g.K.Keeper.keeps (record { run = c.self.inside.engine; lines = c.self.inside.lines }) (record { run = new; lines = c.welcome.new.lines }) c.turn-turned.ensures.worked histories (input.Up (up.Hello s)) c.args.now c.in-Ok.answers turned
    (subst (λ u. IsHistoryOf histories.kept old → IsHistoryOf (history_turned histories.kept old (input.Up (up.Hello u)) c.args.now) new.server) c.in_ok-copy.ensures (c.in-Ok.ensures.leads histories.kept))
    (subst (λ u. IsHistoryOf histories.kept old → g.K.Keeper.works new.keeper → g.K.Keeper.keeps c.self.inside.engine.keeper histories.kept
    → g.K.Keeper.keeps new.keeper (history_turned histories.kept old (input.Up (up.Hello u)) c.args.now)) c.in_ok-copy.ensures (c.in-Ok.ensures.kept histories.kept))
    c.number.ensures.counted
    (kept_at g.K.Keeper.works g.K.Keeper.keeps (record { run = c.self.inside.engine; lines = c.self.inside.lines }) c.self.invariant new.server s c.args.now c.in-Ok.answers turned c.reserve.new.self c.in_ok-is_new.ensures.line
    histories c.in_ok-opening.opening c.in_ok-opening.ensures c.welcome.new.lines c.welcome.result c.welcome.ensures.lines)
    stands)

pub returns-after-is_new-clause-lines : goal.returns-after-is_new-clause-lines
returns-after-is_new-clause-lines g c = elim c.if-is_new.branch [
  | then-is_new w ↦ λ t.
      ap (λ x. line_at t x.lines) w.self-is
      ∙ unplaced c.args.session.now c.self.inside.lines c.reserve.new.self w.remove.new.self (sym c.in_ok-is_new.ensures.new ∙ w.if-is_new.true) c.in_ok-is_new.ensures.line w.remove.ensures.line t
      ∙ ap (λ x. line_at t x.lines) c.self.view_is
  | else-is_new w ↦ λ t.
      ap (λ x. line_at t x.lines) w.self-is
      ∙ placed_before c.args.session.now c.self.inside.lines c.reserve.new.self (sym c.in_ok-is_new.ensures.new ∙ w.if-is_new.false) c.in_ok-is_new.ensures.line t
      ∙ ap (λ x. line_at t x.lines) c.self.view_is
]

pub returns-after-is_new-clause-stands : goal.returns-after-is_new-clause-stands
returns-after-is_new-clause-stands g c = elim c.if-is_new.branch [
  | then-is_new w ↦ λ histories stands.
      subst (Stands g.K.Keeper.works g.K.Keeper.keeps histories) (sym w.self-is)
      (stands_refused g.K.Keeper.works g.K.Keeper.keeps (record { run = c.self.inside.engine; lines = c.self.inside.lines }) (record { run = c.turn-turned.new.self; lines = w.remove.new.self }) c.turn-turned.ensures.worked histories _ c.args.now c.in-Err.fault
      c.in-Err.ensures.refused (c.in-Err.ensures.kept histories.kept) c.in-Err.ensures.stays
      (unplaced c.args.session.now c.self.inside.lines c.reserve.new.self w.remove.new.self (sym c.in_ok-is_new.ensures.new ∙ w.if-is_new.true) c.in_ok-is_new.ensures.line w.remove.ensures.line)
      (subst (Stands g.K.Keeper.works g.K.Keeper.keeps histories) (sym c.self.view_is) stands))
  | else-is_new w ↦ λ histories stands.
      subst (Stands g.K.Keeper.works g.K.Keeper.keeps histories) (sym w.self-is)
      (stands_refused g.K.Keeper.works g.K.Keeper.keeps (record { run = c.self.inside.engine; lines = c.self.inside.lines }) (record { run = c.turn-turned.new.self; lines = c.reserve.new.self }) c.turn-turned.ensures.worked histories _ c.args.now c.in-Err.fault
      c.in-Err.ensures.refused (c.in-Err.ensures.kept histories.kept) c.in-Err.ensures.stays
      (placed_before c.args.session.now c.self.inside.lines c.reserve.new.self (sym c.in_ok-is_new.ensures.new ∙ w.if-is_new.false) c.in_ok-is_new.ensures.line)
      (subst (Stands g.K.Keeper.works g.K.Keeper.keeps histories) (sym c.self.view_is) stands))
]
