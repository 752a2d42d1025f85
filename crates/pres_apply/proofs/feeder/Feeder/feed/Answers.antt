use Rattle.std.proofs.Common.{arith, length, ◌∙◌}
use Rattle.std.proofs.lemmas.Result.{err_from_is_err_and}
use Rattle.pres_apply.proofs.Split.{midway_starts, midway_goes, midway_stops, midway_ends}
use Rattle.pres_apply.proofs.Steps.{counts_line, ends_later}
use Rattle.pres_apply.proofs.feeder.Feeder.feed.Goals as goal
use Rattle.std.proofs.lemmas.Grind.{common_steps}

pub lines-init : goal.lines-init
lines-init c = record {
  taken = λ line f h. midway_starts _ line c.args.piece.now _ _ c.args.out.now.items f h;
  count = omega arith;
}

pub lines-preserved : goal.lines-preserved
lines-preserved c =
    let head = c.in-Some.line.now in
    let tail = c.in-Some.more.now in
    let rest = c.lines.rest.now in
    let pushed = c.in_ok-push.ensures in
    let ended = c.in_ok-end_line.ensures in
    record {
      taken = λ line f h.
          midway_goes _ c.lines.self.applier _ line c.args.piece.now rest head tail c.lines.self.pending.bytes.items _ c.lines.self.pending.cut _ _ c.lines.out.items _
          (c.lines.invariant.taken line f h) c.in-Some.ensures.1 c.in-Some.ensures.0 ended.begins (λ last held. (ended.state _ (pushed last held), ended.text _ (pushed last held)));
      count = counts_line c.args.self.now.applier.log.number (length c.args.piece.now) c.lines.self.applier.log.number _ rest head tail c.lines.invariant.count ended.count c.in-Some.ensures.1;
    }

pub returns-in_err-end_line-clause-err : goal.returns-in_err-end_line-clause-err
returns-in_err-end_line-clause-err c =
    let p = err_from_is_err_and c.from_residual-in_err-end_line.result c.from_residual-in_err-end_line.ensures.1 in
    rw (p.1, p.2) (ends_later c.lines.self.applier.log.number _ _ (omega (arith, c.lines.invariant.count)) c.in_err-end_line.ensures.err)

pub returns-clause-taken : goal.returns-clause-taken
returns-clause-taken c = λ line f h.
    midway_ends _ _ line c.args.piece.now c.lines.rest.now c.lines.self.pending.bytes.items _ c.lines.self.pending.cut _ _ _ (c.lines.invariant.taken line f h) c.in_default.ensures c.in_ok-push-2.ensures

pub returns-clause-count : goal.returns-clause-count
returns-clause-count c = omega (arith, c.lines.invariant.count)

pub returns-in_err-end_line-clause-stopped : goal.returns-in_err-end_line-clause-stopped
returns-in_err-end_line-clause-stopped c =
    let p = err_from_is_err_and c.from_residual-in_err-end_line.result c.from_residual-in_err-end_line.ensures.1 in
    let stays = c.in_err-end_line.ensures.silent in
    rw p.1 (λ line f h.
    let r = midway_stops _ _ line c.args.piece.now c.lines.rest.now _ _ _ _ (c.lines.invariant.taken line f h) in
    (r.0, stays ∙ r.1, r.2))

pub lines-smaller : goal.lines-smaller
lines-smaller c = grind (arith, common_steps)
