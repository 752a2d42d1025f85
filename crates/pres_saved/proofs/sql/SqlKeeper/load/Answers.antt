use Rattle.std.proofs.Common.{subst, arith, true≢false, refl}
use Rattle.std.proofs.lemmas.Result.{err_from_is_err_and}
use Rattle.sqlite.specs.Held.{state}
use Rattle.sqlite.specs.State.{HasCleanDisk}
use Rattle.pres_batch_rows.proofs.Finding.{left_after}
use Rattle.pres_batch_rows.proofs.Making.{err_weaker}
use Rattle.pres_batch_rows.proofs.Opening.{ok_so}
use Rattle.pres_batch_rows.proofs.Progress.{nothing_more}
use Rattle.pres_keeper.specs.Keepers.{IsUnread, base_sum}
use Rattle.pres_saved.specs.SqlKeepers.{readable_in}
use Rattle.pres_saved.proofs.Basing.{history_here, readable_here}
use Rattle.pres_saved.proofs.Refused.{base_unread}
use Rattle.pres_saved.proofs.sql.SqlKeeper.load.Goals as goal

-- ---- the checkpoint isn't read

pub returns-in_err-base-clause-refused : goal.returns-in_err-base-clause-refused
returns-in_err-base-clause-refused g c = λ clean serves.
    let p = err_from_is_err_and c.from_residual.result c.from_residual.ensures.1 in
    rw (p.1, p.2) (base_unread (readable_in g.S.Store c.args.self.now) _ (c.in_err-base.ensures.refused clean serves))

-- ---- it is

pub returns-clause-batches : goal.returns-clause-batches
returns-clause-batches g c = λ clean serves.
    let old = state g.S.Store c.args.self.now.connection in
    let mid = state g.S.Store c.load_base.new.self.connection in
    let early : HasCleanDisk mid = omega (arith, c.load_since.ensures.crash.clean, clean) in
    let it = c.in_ok-base.ensures in
    let b = c.in_ok-base.base in
    ok_so c.load_since.result _ _ (λ batches read. (base_sum b, history_here old mid b (it.base early serves) (it.same early serves) (record { base = base_sum b; log = batches.items }) refl read))
    (c.load_since.ensures.batches clean (it.serves serves))

pub returns-clause-refused : goal.returns-clause-refused
returns-clause-refused g c = λ clean serves.
    let old = state g.S.Store c.args.self.now.connection in
    let mid = state g.S.Store c.load_base.new.self.connection in
    let early : HasCleanDisk mid = omega (arith, c.load_since.ensures.crash.clean, clean) in
    let it = c.in_ok-base.ensures in
    err_weaker c.load_since.result _ _ (λ e why. subst (λ held. IsUnread held e) (readable_here old mid c.in_ok-base.base (it.base early serves) (it.same early serves)) why) (c.load_since.ensures.refused clean (it.serves serves))

pub returns-clause-left : goal.returns-clause-left
returns-clause-left g c = λ clean serves.
    let old = state g.S.Store c.args.self.now.connection in
    let mid = state g.S.Store c.load_base.new.self.connection in
    let new = state g.S.Store c.load_since.new.self.connection in
    let early : HasCleanDisk mid = omega (arith, c.load_since.ensures.crash.clean, clean) in
    let it = c.in_ok-base.ensures in
    left_after old mid new (it.same early serves) (c.load_since.ensures.left clean (it.serves serves))

pub returns-clause-shut : goal.returns-clause-shut
returns-clause-shut g c = λ serves was.
    let now = was.clean in
    let early : HasCleanDisk (state g.S.Store c.load_base.new.self.connection) = omega (arith, c.load_since.ensures.crash.clean, now) in
    absurd (true≢false (c.in_ok-base.ensures.shut serves (record { clean = early; was_shut = was.was_shut })))

pub returns-clause-crash : goal.returns-clause-crash
returns-clause-crash g c =
    nothing_more (state g.S.Store c.args.self.now.connection) (state g.S.Store c.load_base.new.self.connection) (state g.S.Store c.load_since.new.self.connection) c.load_base.ensures.crash c.load_since.ensures.crash
