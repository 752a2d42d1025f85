use Rattle.sqlite.specs.Held.{state}
use Rattle.pres_batch_rows.specs.RowContents.{shown_rows, shown_base}
use Rattle.pres_batch_rows.proofs.Opening.{ok_so}
use Rattle.pres_saved.specs.SavedHistories.{saved_history}
use Rattle.pres_saved.proofs.Committing.{kept_left}
use Rattle.pres_saved.proofs.Outlasting.{outlasts_read}
use Rattle.pres_saved.proofs.Serving.{same_batches}
use Rattle.pres_saved.proofs.sql.SqlKeeperKeeper.batches.Goals as goal

pub returns-clause-batches : goal.returns-clause-batches
returns-clause-batches g c = λ ready works.
    ok_so c.load.result _ _
    (λ batches held. (held.0, kept_left g.S.Store c.args.self.now c.load.new.self (λ clean. c.load.ensures.left clean ready.serves) c.load.ensures.crash _ works held.1))
    (c.load.ensures.batches works.clean ready.serves)

pub returns-clause-exact : goal.returns-clause-exact
returns-clause-exact g c = λ history ready works kept.
    let old = state g.S.Store c.args.self.now.connection in
    ok_so c.load.result _ _ (λ batches held. same_batches (saved_history (shown_base old) (shown_rows old)) history batches.items held kept) (c.load.ensures.batches works.clean ready.serves)

pub returns-clause-outlasts : goal.returns-clause-outlasts
returns-clause-outlasts g c = λ history ready lasts. outlasts_read g.S.Store c.args.self.now c.load.new.self c.load.ensures.crash history lasts
