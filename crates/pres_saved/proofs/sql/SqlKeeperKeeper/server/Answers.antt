use Rattle.sqlite.specs.Held.{state}
use Rattle.pres_batch_rows.specs.RowContents.{shown_rows, shown_base}
use Rattle.pres_saved.specs.SavedHistories.{saved_history}
use Rattle.pres_saved.proofs.Committing.{kept_left}
use Rattle.pres_saved.proofs.Outlasting.{outlasts_read}
use Rattle.pres_saved.proofs.Serving.{served_kept, served_there, served_number}
use Rattle.pres_saved.proofs.sql.SqlKeeperKeeper.server.Goals as goal

pub returns-clause-server : goal.returns-clause-server
returns-clause-server g c = served_kept _ _ c.replay.result
    (λ history saved ready works. kept_left g.S.Store c.args.self.now c.replay.new.self (λ clean. c.replay.ensures.left clean ready.serves) c.replay.ensures.crash history works (saved works.clean ready.serves))
    c.replay.ensures.server

pub returns-clause-exact : goal.returns-clause-exact
returns-clause-exact g c = λ history ready works kept.
    let old = state g.S.Store c.args.self.now.connection in
    served_there (saved_history (shown_base old) (shown_rows old)) history _ c.replay.result kept (λ h held. held works.clean ready.serves) c.replay.ensures.server

pub returns-clause-number : goal.returns-clause-number
returns-clause-number g c = λ history ready works kept.
    let old = state g.S.Store c.args.self.now.connection in
    served_number (saved_history (shown_base old) (shown_rows old)) history _ c.replay.result kept (λ h held. held works.clean ready.serves) c.replay.ensures.server

pub returns-clause-outlasts : goal.returns-clause-outlasts
returns-clause-outlasts g c = λ history ready lasts. outlasts_read g.S.Store c.args.self.now c.replay.new.self c.replay.ensures.crash history lasts
