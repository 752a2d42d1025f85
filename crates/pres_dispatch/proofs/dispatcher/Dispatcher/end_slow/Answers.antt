use Rattle.std.proofs.Common.{◌≡◌, refl, sym, ◌∙◌, subst, ap, Some, IfOk, arith}
use Rattle.pres_server.specs.declared.input.Input.TheVariants as input
use Rattle.pres_ring.specs.Lines.{first_slow}
use Rattle.pres_keeper.specs.EngineTurns.{history_turned}
use Rattle.pres_dispatch.specs.Dispatches.{Stands}
use Rattle.pres_dispatch.proofs.Ended.{Before, if_done, goes_on, slow_turned, slow_unheard}
use Rattle.pres_dispatch.proofs.Since.{ended_first, ended_more, ended_last}
use Rattle.pres_dispatch.proofs.Marks.{stay_same, stay_twice}
use Rattle.pres_dispatch.proofs.dispatcher.Dispatcher.end_slow.Goals as goal

pub loop-next-init : goal.loop-next-init
loop-next-init g c = (ended_first g.K.Keeper.works g.K.Keeper.keeps c.args.now c.args.self.now, omega arith, stay_same c.args.self.now.lines, refl)

pub loop-next-preserved-in-Ok : goal.loop-next-preserved-in-Ok
loop-next-preserved-in-Ok g c =
    let here = c.loop-next.self in
    let mid = c.next_slow.new.self in
    let new = c.turn.new.self in
    let since = c.loop-next.invariant.1 in
    let same = ap (λ run. run.number) c.in-Some.ensures.run in
    let rises = c.turn.ensures.rises in
    let found = first_slow here.lines in
    let is : found ≡ Some c.in-Ok.session = subst (λ r. IfOk r (λ s. found ≡ Some s)) c.in-Ok.is c.in-Some.ensures.session in (
      ended_more g.K.Keeper.works g.K.Keeper.keeps c.args.now c.args.self.now here new (λ history. if_done c.turn.result (history_turned history mid.run.server (input.Slow c.in-Ok.session) c.args.now) history) c.loop-next.invariant.0
          (λ after behind h.
          subst (λ o. Before c.args.now o new.run.server after here.lines new.lines behind (λ history. if_done c.turn.result (history_turned history mid.run.server (input.Slow c.in-Ok.session) c.args.now) history) h) (ap (λ run. run.server) c.in-Some.ensures.run)
          (slow_turned c.args.now mid.run.server here.lines mid.lines found c.in-Some.ensures.first c.in-Some.ensures.opened c.in-Some.ensures.marked
          c.in-Ok.session new.run.server after new.lines behind c.turn.result is c.turn.ensures.answered c.turn.ensures.refused c.turn.ensures.lines h))
          (λ histories stands.
          goes_on c.turn.result (λ h. Stands g.K.Keeper.works g.K.Keeper.keeps h new) (λ history. history_turned history mid.run.server (input.Slow c.in-Ok.session) c.args.now) histories
          (c.turn.ensures.stands histories (c.in-Some.ensures.stands histories stands))),
      omega (arith, since, same, rises),
      stay_twice c.args.self.now.lines here.lines new.lines c.loop-next.invariant.2 (stay_twice here.lines mid.lines new.lines c.in-Some.ensures.marks c.turn.ensures.marks),
      c.turn.ensures.base ∙ ap (λ run. run.base_number) c.in-Some.ensures.run ∙ c.loop-next.invariant.3,
    )

pub loop-next-preserved : goal.loop-next-preserved
loop-next-preserved g c =
    let here = c.loop-next.self in
    let mid = c.next_slow.new.self in
    let since = c.loop-next.invariant.1 in
    let same = ap (λ run. run.number) c.in-Some.ensures.run in (
      ended_more g.K.Keeper.works g.K.Keeper.keeps c.args.now c.args.self.now here mid (λ history. history) c.loop-next.invariant.0
          (λ after behind h.
          subst (λ o. Before c.args.now o mid.run.server after here.lines mid.lines behind (λ history. history) h) (ap (λ run. run.server) c.in-Some.ensures.run)
          (slow_unheard c.args.now mid.run.server here.lines mid.lines (first_slow here.lines) c.in-Some.ensures.first c.in-Some.ensures.opened c.in-Some.ensures.marked (sym c.in-Some.ensures.found) after behind h))
          (λ histories stands. c.in-Some.ensures.stands histories stands),
      omega (arith, since, same),
      stay_twice c.args.self.now.lines here.lines mid.lines c.loop-next.invariant.2 c.in-Some.ensures.marks,
      ap (λ run. run.base_number) c.in-Some.ensures.run ∙ c.loop-next.invariant.3,
    )

pub returns-clause-ended : goal.returns-clause-ended
returns-clause-ended g c = (ended_last g.K.Keeper.works g.K.Keeper.keeps c.args.now c.args.self.now c.loop-next.self c.next_slow.new.self c.loop-next.invariant.0 c.in_default.ensures.none c.in_default.ensures.none_slow).0

pub returns-clause-stands : goal.returns-clause-stands
returns-clause-stands g c = λ histories stands.
    let last = ended_last g.K.Keeper.works g.K.Keeper.keeps c.args.now c.args.self.now c.loop-next.self c.next_slow.new.self c.loop-next.invariant.0 c.in_default.ensures.none c.in_default.ensures.none_slow in
    (last.0, last.1 histories stands)

pub returns-clause-base : goal.returns-clause-base
returns-clause-base g c = ap (λ x. x.run.base_number) c.in_default.ensures.none ∙ c.loop-next.invariant.3
