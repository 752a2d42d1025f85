use Rattle.std.proofs.Common.{ap, arith, true≢false}
use Rattle.std.proofs.lemmas.Result.{err_from_is_err_and}
use Rattle.sqlite.specs.Held.{state}
use Rattle.sqlite.specs.State.{HasCleanDisk}
use Rattle.pres_batch_rows.proofs.Finding.{left_after}
use Rattle.pres_batch_rows.proofs.Progress.{nothing_more}
use Rattle.pres_server.specs.Sums.{Sum}
use Rattle.pres_saved.specs.SqlKeepers.{readable_in}
use Rattle.pres_saved.proofs.Basing.{history_here, readable_here}
use Rattle.pres_saved.proofs.Refused.{base_unserved, unserved_also}
use Rattle.pres_saved.proofs.sql.SqlKeeper.replay.Goals as goal

-- ---- the checkpoint isn't read

pub returns-in_err-base-clause-refused : goal.returns-in_err-base-clause-refused
returns-in_err-base-clause-refused g c = λ clean serves.
    let p = err_from_is_err_and c.from_residual.result c.from_residual.ensures.1 in
    rw (p.1, p.2) (base_unserved (readable_in g.S.Store c.args.self.now) _ (c.in_err-base.ensures.refused clean serves))

-- ---- it is, and no server is made

pub returns-in_err-server-clause-refused : goal.returns-in_err-server-clause-refused
returns-in_err-server-clause-refused g c = λ clean serves.
    let old = state g.S.Store c.args.self.now.connection in
    let mid = state g.S.Store c.load_base.new.self.connection in
    let early : HasCleanDisk mid = omega (arith, c.replay_since.ensures.crash.clean, clean) in
    let it = c.in_ok-base.ensures in
    let p = err_from_is_err_and c.from_residual-in_err-server.result c.from_residual-in_err-server.ensures.1 in
    rw (p.1, p.2) (unserved_also _ (readable_in g.S.Store c.args.self.now) _ (readable_here old mid c.in_ok-base.base (it.base early serves) (it.same early serves)) (c.in_err-server.ensures.refused clean (it.serves serves)))

pub returns-in_err-server-clause-left : goal.returns-in_err-server-clause-left
returns-in_err-server-clause-left g c = λ clean serves.
    let old = state g.S.Store c.args.self.now.connection in
    let mid = state g.S.Store c.load_base.new.self.connection in
    let new = state g.S.Store c.replay_since.new.self.connection in
    let early : HasCleanDisk mid = omega (arith, c.replay_since.ensures.crash.clean, clean) in
    let it = c.in_ok-base.ensures in
    left_after old mid new (it.same early serves) (c.replay_since.ensures.left clean (it.serves serves))

pub returns-in_err-server-clause-crash : goal.returns-in_err-server-clause-crash
returns-in_err-server-clause-crash g c =
    nothing_more (state g.S.Store c.args.self.now.connection) (state g.S.Store c.load_base.new.self.connection) (state g.S.Store c.replay_since.new.self.connection) c.load_base.ensures.crash c.replay_since.ensures.crash

-- ---- one is made

pub returns-clause-server : goal.returns-clause-server
returns-clause-server g c =
    let old = state g.S.Store c.args.self.now.connection in
    let mid = state g.S.Store c.load_base.new.self.connection in
    let it = c.in_ok-base.ensures in
    let made = c.in_ok-server.ensures.server in
    let number = ap (λ (s : Sum). s.number) made.held.0 in
    record {
      history = made.history;
      leads = made.leads;
      held = (
        omega (arith, number),
        λ clean serves.
            let early : HasCleanDisk mid = omega (arith, c.replay_since.ensures.crash.clean, clean) in
            history_here old mid c.in_ok-base.base (it.base early serves) (it.same early serves) made.history made.held.0 (made.held.1 clean (it.serves serves)),
      );
    }

pub returns-clause-nulls : goal.returns-clause-nulls
returns-clause-nulls g c = c.in_ok-server.ensures.nulls c.in_ok-base.ensures.holds.nulls

pub returns-clause-left : goal.returns-clause-left
returns-clause-left g c = λ clean serves.
    let old = state g.S.Store c.args.self.now.connection in
    let mid = state g.S.Store c.load_base.new.self.connection in
    let new = state g.S.Store c.replay_since.new.self.connection in
    let early : HasCleanDisk mid = omega (arith, c.replay_since.ensures.crash.clean, clean) in
    let it = c.in_ok-base.ensures in
    left_after old mid new (it.same early serves) (c.replay_since.ensures.left clean (it.serves serves))

pub returns-clause-shut : goal.returns-clause-shut
returns-clause-shut g c = λ serves was.
    let now = was.clean in
    let early : HasCleanDisk (state g.S.Store c.load_base.new.self.connection) = omega (arith, c.replay_since.ensures.crash.clean, now) in
    absurd (true≢false (c.in_ok-base.ensures.shut serves (record { clean = early; was_shut = was.was_shut })))

pub returns-clause-crash : goal.returns-clause-crash
returns-clause-crash g c =
    nothing_more (state g.S.Store c.args.self.now.connection) (state g.S.Store c.load_base.new.self.connection) (state g.S.Store c.replay_since.new.self.connection) c.load_base.ensures.crash c.replay_since.ensures.crash
