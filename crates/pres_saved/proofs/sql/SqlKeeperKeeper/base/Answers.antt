use Rattle.sqlite.specs.Held.{state}
use Rattle.pres_batch_rows.specs.RowContents.{shown_rows, shown_base}
use Rattle.pres_batch_rows.proofs.Opening.{ok_so}
use Rattle.pres_keeper.specs.Keepers.{base_sum}
use Rattle.pres_saved.proofs.Outlasting.{outlasts_read}
use Rattle.pres_saved.proofs.Serving.{same_base, readable_base}
use Rattle.pres_saved.proofs.sql.SqlKeeperKeeper.base.Goals as goal

pub returns-clause-base : goal.returns-clause-base
returns-clause-base g c = λ ready works.
    let old = state g.S.Store c.args.self.now.connection in
    ok_so c.load_base.result _ _ (λ base is. readable_base (shown_base old) (shown_rows old) (base_sum base) is) (c.load_base.ensures.base works.clean ready.serves)

pub returns-clause-exact : goal.returns-clause-exact
returns-clause-exact g c = λ history ready works kept.
    let old = state g.S.Store c.args.self.now.connection in
    ok_so c.load_base.result _ _ (λ base is. same_base (shown_base old) (shown_rows old) history (base_sum base) is kept) (c.load_base.ensures.base works.clean ready.serves)

pub returns-clause-outlasts : goal.returns-clause-outlasts
returns-clause-outlasts g c = λ history ready lasts. outlasts_read g.S.Store c.args.self.now c.load_base.new.self c.load_base.ensures.crash history lasts
