use Rattle.std.proofs.Common.{◌≡◌, ◌≤◌, [], ◌++◌, length, take, ◌<◌, arith, ap, ◌∙◌, sym, subst, IfSome}
use Rattle.std.proofs.lemmas.Result.{err_from_is_err_and}
use Rattle.std.specs.Io.KnownBytes.{Consumes, Appends, IsAtEnd}
use Rattle.pres_apply.specs.Lines.{end_state}
use Rattle.pres_apply.specs.Replies.{reply, next, tree_line}
use Rattle.pres_apply.proofs.Going.{going_starts, going_more, going_ends, status_ends, reached_past, reached_kept, stopped_none, stopped_ends, stopped_midway, never_read, never_endless, spent_at}
use Rattle.pres_apply.proofs.apply.apply_run.Goals as goal
use Rattle.std.proofs.lemmas.Grind.{common_steps}

pub reads-init : goal.reads-init
reads-init g c = record {
  going = going_starts _ _ _ _ _ c.new-feeder.ensures.applier c.new-feeder.ensures.pending;
  room = c.as_mut_slice-piece.ensures.len ∙ c.in_ok-room.ensures;
  count = omega (arith, ap (λ s. s.log.number) c.new-feeder.ensures.applier);
}

pub reads-preserved : goal.reads-preserved
reads-preserved g c =
    let bound = c.in-Ok.ensures.bound in
    let few : length (take c.in-Ok.count c.read.new.buf) ≤ 65536 =
    omega (arith, bound.0, bound.1, c.read.auto.buf, c.reads.invariant.room) in
    let said = c.clear.ensures.items in
    let read = c.in-Ok.ensures.bytes.0 in
    let some : 0 < length (take c.in-Ok.count c.read.new.buf) =
    omega (arith, c.if-count-eq0.false, bound.0, bound.1, c.read.auto.buf, c.reads.invariant.room) in
    let fed = c.in_ok-fed.ensures in
    let put = subst (λ x. Appends (g.W.Write.contents c.reads.output) (g.W.Write.contents c.put-in-reads.new.output) x) c.deref-in-reads.ensures.value c.in_ok-put-2.ensures.ok in
    record {
      going = going_more (g.R.Read.remaining c.args.input.now) (g.R.Read.remaining c.reads.input) (g.R.Read.remaining c.read.new.self)
          (g.W.Write.contents c.args.output.now) (g.W.Write.contents c.reads.output) (g.W.Write.contents c.put-in-reads.new.output)
          c.reads.feeder.applier c.feed-fed.new.self.applier c.reads.feeder.pending.bytes.items c.feed-fed.new.self.pending.bytes.items c.reads.feeder.pending.cut c.feed-fed.new.self.pending.cut
          (take c.in-Ok.count c.read.new.buf) c.feed-fed.new.out.items c.reads._turn c.reads.invariant.going read some
          (λ line f h. let r = fed.taken line f h in (r.0, r.1 ∙ ap (λ x. x ++ r.0) said, r.2))
          put;
      room = c.read.auto.buf ∙ c.reads.invariant.room;
      count = omega (arith, few, fed.count, c.reads.invariant.count);
    }

pub returns-then-count-eq0-clause-output : goal.returns-then-count-eq0-clause-output
returns-then-count-eq0-clause-output g c =
    let said = c.clear.ensures.items in
    let none : c.in-Ok.count ≡ 0 = c.if-count-eq0.true in
    let room : 0 < length c.read.new.buf = omega (arith, c.read.auto.buf, c.reads.invariant.room) in
    let took : Consumes (g.R.Read.remaining c.reads.input) (g.R.Read.remaining c.read.new.self) [] =
    subst (λ n. Consumes (g.R.Read.remaining c.reads.input) (g.R.Read.remaining c.read.new.self) (take n c.read.new.buf)) none c.in-Ok.ensures.bytes.0 in
    let over : IsAtEnd (g.R.Read.remaining c.read.new.self) = c.in-Ok.ensures.bytes.1 none room in
    going_ends (g.R.Read.remaining c.args.input.now) (g.R.Read.remaining c.reads.input) (g.R.Read.remaining c.read.new.self)
    (g.W.Write.contents c.args.output.now) (g.W.Write.contents c.reads.output) (g.W.Write.contents c.put.new.output)
    c.reads.feeder.applier c.reads.feeder.pending.bytes.items c.reads.feeder.pending.cut c.finish.new.out.items c.reads._turn c.reads.invariant.going took over
    (λ line h. c.in_ok-finish.ensures.text line h ∙ ap (λ x. x ++ reply c.reads.feeder.applier line ++ tree_line (next c.reads.feeder.applier line)) said)
    (subst (λ x. Appends (g.W.Write.contents c.reads.output) (g.W.Write.contents c.put.new.output) x) c.deref.ensures.value c.in_ok-put.ensures.ok)

pub returns-then-count-eq0-clause-status : goal.returns-then-count-eq0-clause-status
returns-then-count-eq0-clause-status g c =
    let none : c.in-Ok.count ≡ 0 = c.if-count-eq0.true in
    let room : 0 < length c.read.new.buf = omega (arith, c.read.auto.buf, c.reads.invariant.room) in
    let took : Consumes (g.R.Read.remaining c.reads.input) (g.R.Read.remaining c.read.new.self) [] =
    subst (λ n. Consumes (g.R.Read.remaining c.reads.input) (g.R.Read.remaining c.read.new.self) (take n c.read.new.buf)) none c.in-Ok.ensures.bytes.0 in
    let over : IsAtEnd (g.R.Read.remaining c.read.new.self) = c.in-Ok.ensures.bytes.1 none room in
    let status = status_ends (g.R.Read.remaining c.args.input.now) (g.R.Read.remaining c.reads.input) (g.R.Read.remaining c.read.new.self)
    (g.W.Write.contents c.args.output.now) (g.W.Write.contents c.reads.output)
    c.reads.feeder.applier c.finish.new.self.applier c.reads.feeder.pending.bytes.items c.reads.feeder.pending.cut c.reads._turn c.reads.invariant.going took over c.in_ok-finish.ensures.state in
    subst (λ x. IfSome (g.R.Read.remaining c.args.input.now) (λ bytes. x ≡ (end_state bytes).refused)) (sym c.has_refused.ensures) status

pub returns-in_err-room-clause-memory : goal.returns-in_err-room-clause-memory
returns-in_err-room-clause-memory g c = λ _. stopped_none _ _

pub returns-in_default-clause-read : goal.returns-in_default-clause-read
returns-in_default-clause-read g c = λ _.
    reached_kept (g.R.Read.remaining c.args.input.now) (g.R.Read.remaining c.reads.input) (g.R.Read.remaining c.read.new.self)
    (g.W.Write.contents c.args.output.now) (g.W.Write.contents c.reads.output)
    c.reads.feeder.applier c.reads.feeder.pending.bytes.items c.reads.feeder.pending.cut c.reads._turn c.reads.invariant.going c.in_default.ensures.bytes

pub returns-clause-endless : goal.returns-clause-endless
returns-clause-endless g c = λ _.
    let w = reached_past (g.R.Read.remaining c.args.input.now) (g.R.Read.remaining c.reads.input)
    (g.W.Write.contents c.args.output.now) (g.W.Write.contents c.reads.output)
    c.reads.feeder.applier c.reads.feeder.pending.bytes.items c.reads.feeder.pending.cut c.reads._turn c.reads.invariant.going in
    record { reached = w.reached; long = omega (arith, w.long, c.reads-test.false) }

pub returns-in_err-finish-clause-read : goal.returns-in_err-finish-clause-read
returns-in_err-finish-clause-read g c = λ is.
    let p = err_from_is_err_and c.from_residual-in_err-finish.result c.from_residual-in_err-finish.ensures.1 in
    absurd (never_read c.from_residual-in_err-finish.result _ c.in_err-finish.field-0.0 c.reads.feeder.applier.log.number p.1 p.2 c.in_err-finish.ensures.err is)

pub returns-in_err-finish-clause-endless : goal.returns-in_err-finish-clause-endless
returns-in_err-finish-clause-endless g c = λ is.
    let p = err_from_is_err_and c.from_residual-in_err-finish.result c.from_residual-in_err-finish.ensures.1 in
    absurd (never_endless c.from_residual-in_err-finish.result _ c.in_err-finish.field-0.0 c.reads.feeder.applier.log.number p.1 p.2 c.in_err-finish.ensures.err is)

pub returns-in_err-finish-clause-unspent : goal.returns-in_err-finish-clause-unspent
returns-in_err-finish-clause-unspent g c = λ is.
    let p = err_from_is_err_and c.from_residual-in_err-finish.result c.from_residual-in_err-finish.ensures.1 in
    let most = spent_at c.from_residual-in_err-finish.result _ c.in_err-finish.field-0.0 c.reads.feeder.applier.log.number p.1 p.2 c.in_err-finish.ensures.err is in absurd (omega (arith, most, c.reads.invariant.count, c.reads-test.true))

pub returns-in_err-finish-clause-memory : goal.returns-in_err-finish-clause-memory
returns-in_err-finish-clause-memory g c = λ _.
    let none : c.in-Ok.count ≡ 0 = c.if-count-eq0.true in
    let took : Consumes (g.R.Read.remaining c.reads.input) (g.R.Read.remaining c.read.new.self) [] =
    subst (λ n. Consumes (g.R.Read.remaining c.reads.input) (g.R.Read.remaining c.read.new.self) (take n c.read.new.buf)) none c.in-Ok.ensures.bytes.0 in
    stopped_ends (g.R.Read.remaining c.args.input.now) (g.R.Read.remaining c.reads.input) (g.R.Read.remaining c.read.new.self)
    (g.W.Write.contents c.args.output.now) (g.W.Write.contents c.reads.output)
    c.reads.feeder.applier c.reads.feeder.pending.bytes.items c.reads.feeder.pending.cut c.reads._turn c.reads.invariant.going took

pub returns-in_err-fed-clause-memory : goal.returns-in_err-fed-clause-memory
returns-in_err-fed-clause-memory g c = λ _.
    let bound = c.in-Ok.ensures.bound in
    let few : length (take c.in-Ok.count c.read.new.buf) ≤ 65536 =
    omega (arith, bound.0, bound.1, c.read.auto.buf, c.reads.invariant.room) in
    let said = c.clear.ensures.items in
    let put = subst (λ x. Appends (g.W.Write.contents c.reads.output) (g.W.Write.contents c.put-in-reads.new.output) x) c.deref-in-reads.ensures.value c.in_ok-put-2.ensures.ok in
    let fed = c.in_err-fed.ensures.stopped in
    stopped_midway (g.R.Read.remaining c.args.input.now) (g.R.Read.remaining c.reads.input) (g.R.Read.remaining c.read.new.self)
    (g.W.Write.contents c.args.output.now) (g.W.Write.contents c.reads.output) (g.W.Write.contents c.put-in-reads.new.output)
    c.reads.feeder.applier c.reads.feeder.pending.bytes.items c.reads.feeder.pending.cut
    (take c.in-Ok.count c.read.new.buf) c.feed-fed.new.out.items c.reads._turn c.reads.invariant.going c.in-Ok.ensures.bytes.0 few
    (λ line f h. let r = fed line f h in (r.0, r.1 ∙ ap (λ x. x ++ r.0) said, r.2))
    put

pub returns-in_err-put-clause-read : goal.returns-in_err-put-clause-read
returns-in_err-put-clause-read g c = grind (arith, common_steps)

pub returns-in_err-put-2-clause-endless : goal.returns-in_err-put-2-clause-endless
returns-in_err-put-2-clause-endless g c = grind (arith, common_steps)

pub returns-in_err-fed-clause-unspent : goal.returns-in_err-fed-clause-unspent
returns-in_err-fed-clause-unspent g c = grind (arith, common_steps)

pub returns-then-count-eq0-clause-unspent : goal.returns-then-count-eq0-clause-unspent
returns-then-count-eq0-clause-unspent g c = grind (arith, common_steps)

pub returns-in_err-put-clause-memory : goal.returns-in_err-put-clause-memory
returns-in_err-put-clause-memory g c = grind (arith, common_steps)

pub returns-in_default-clause-memory : goal.returns-in_default-clause-memory
returns-in_default-clause-memory g c = grind (arith, common_steps)

pub returns-in_err-put-clause-endless : goal.returns-in_err-put-clause-endless
returns-in_err-put-clause-endless g c = grind (arith, common_steps)

pub returns-then-count-eq0-clause-endless : goal.returns-then-count-eq0-clause-endless
returns-then-count-eq0-clause-endless g c = grind (arith, common_steps)

pub returns-clause-memory : goal.returns-clause-memory
returns-clause-memory g c = grind (arith, common_steps)

pub returns-in_default-clause-unspent : goal.returns-in_default-clause-unspent
returns-in_default-clause-unspent g c = grind (arith, common_steps)

pub returns-then-count-eq0-clause-read : goal.returns-then-count-eq0-clause-read
returns-then-count-eq0-clause-read g c = grind (arith, common_steps)

pub returns-in_default-clause-endless : goal.returns-in_default-clause-endless
returns-in_default-clause-endless g c = grind (arith, common_steps)

pub returns-in_err-fed-clause-endless : goal.returns-in_err-fed-clause-endless
returns-in_err-fed-clause-endless g c = grind (arith, common_steps)

pub returns-clause-unspent : goal.returns-clause-unspent
returns-clause-unspent g c = grind (arith, common_steps)

pub returns-then-count-eq0-clause-memory : goal.returns-then-count-eq0-clause-memory
returns-then-count-eq0-clause-memory g c = grind (arith, common_steps)

pub returns-in_err-put-2-clause-memory : goal.returns-in_err-put-2-clause-memory
returns-in_err-put-2-clause-memory g c = grind (arith, common_steps)

pub returns-in_err-put-2-clause-read : goal.returns-in_err-put-2-clause-read
returns-in_err-put-2-clause-read g c = grind (arith, common_steps)

pub returns-in_err-fed-clause-read : goal.returns-in_err-fed-clause-read
returns-in_err-fed-clause-read g c = grind (arith, common_steps)

pub returns-clause-read : goal.returns-clause-read
returns-clause-read g c = grind (arith, common_steps)
