use Rattle.std.proofs.Common.{◌≡◌, ◌∙◌, ap, subst, false, None}
use Rattle.pres_server.specs.Sums.{is_open_in}
use Rattle.pres_keeper.specs.Engines.{Runs}
use Rattle.pres_ring.specs.Lines.{line_at}
use Rattle.pres_dispatch.specs.Dispatches.{StaysMarked}
use Rattle.pres_hub.proofs.CoreHistories.{goes_twice}
use Rattle.pres_dispatch.proofs.Ended.{passed_on}
use Rattle.pres_hub.specs.CoreTurns.{TickStopsOn}
use Rattle.pres_hub.proofs.Ends.{closed_there}
use Rattle.pres_hub.proofs.Ticking.{tick_at_mark, tick_at_lease}
use Rattle.pres_hub.proofs.center.Core.tick.Goals as goal

pub returns-in_err-end_late-clause-goes_on : goal.returns-in_err-end_late-clause-goes_on
returns-in_err-end_late-clause-goes_on g c = goes_twice g.K.Keeper.works g.K.Keeper.keeps c.args.self.now c.end_marked.new.self c.end_late.new.self c.in_ok-end_marked.ensures.goes_on c.in_err-end_late.ensures.goes_on

pub returns-clause-goes_on : goal.returns-clause-goes_on
returns-clause-goes_on g c = goes_twice g.K.Keeper.works g.K.Keeper.keeps c.args.self.now c.end_marked.new.self c.end_late.new.self c.in_ok-end_marked.ensures.goes_on c.in_ok-end_late.ensures.goes_on

-- a marked session's line leaves with its end, and none comes in its place
pub returns-clause-closed : goal.returns-clause-closed
returns-clause-closed g c = λ s marked.
    let gone : line_at s c.end_marked.new.self.lines ≡ None = c.in_ok-end_marked.ensures.left s marked in
    let none : line_at s c.end_late.new.self.lines ≡ None = subst (λ line. StaysMarked line (line_at s c.end_late.new.self.lines)) gone (c.in_ok-end_late.ensures.marks s) in
    subst (λ x. Runs (λ t. is_open_in s t.sum ≡ false) x.run.server) c.self-2.view_is
    (closed_there g.K.Keeper.works g.K.Keeper.keeps c.self-2.inside.dispatcher c.number-after.ensures.stands s (ap (λ x. line_at s x.lines) c.self-2.view_is ∙ none))

pub returns-clause-carries : goal.returns-clause-carries
returns-clause-carries g c = λ before stands.
    let marked = c.in_ok-end_marked.ensures.carries before stands in
    let late = c.in_ok-end_late.ensures.carries _ marked.1 in (
      record {
        middle = c.end_marked.new.self.run.server;
        lines = c.end_marked.new.self.lines;
        marked = marked.0;
        none_marked = c.in_ok-end_marked.ensures.none_marked;
        late = late.0;
        none_late = c.in_ok-end_late.ensures.none_late;
      },
      late.1,
    )

pub returns-in_err-end_marked-clause-stops : goal.returns-in_err-end_marked-clause-stops
returns-in_err-end_marked-clause-stops g c =
    passed_on c.from_residual.result c.in_err-end_marked.field-0.0 (TickStopsOn g.K.Keeper.works g.K.Keeper.keeps c.args.now c.args.self.now c.end_marked.new.self) c.from_residual.ensures.1
    (tick_at_mark g.K.Keeper.works g.K.Keeper.keeps c.args.now c.args.self.now c.end_marked.new.self c.in_err-end_marked.field-0.0 c.in_err-end_marked.ensures.stops)

pub returns-in_err-end_late-clause-stops : goal.returns-in_err-end_late-clause-stops
returns-in_err-end_late-clause-stops g c =
    passed_on c.from_residual-in_err-end_late.result c.in_err-end_late.field-0.0 (TickStopsOn g.K.Keeper.works g.K.Keeper.keeps c.args.now c.args.self.now c.end_late.new.self) c.from_residual-in_err-end_late.ensures.1
    (tick_at_lease g.K.Keeper.works g.K.Keeper.keeps c.args.now c.args.self.now c.end_marked.new.self c.end_late.new.self c.in_err-end_late.field-0.0 c.in_ok-end_marked.ensures.carries c.in_ok-end_marked.ensures.none_marked c.in_err-end_late.ensures.stops)
