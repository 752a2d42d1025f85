use Rattle.pres_server.specs.Histories.{with_batches}
use Rattle.pres_saved.proofs.Watching.{leaves_then}
use Rattle.pres_saved.proofs.watch.WatchedKeeper.commit_all.Goals as goal

pub returns-in-Err-clause-crash : goal.returns-in-Err-clause-crash
returns-in-Err-clause-crash g c = rw (← c.self.view_is) (λ history ready keeps follow.
    leaves_then g.S.Store c.self.inside.keeper c.commit_all.new.self c.note_refusal.new.self (with_batches history c.args.batches.now) (c.commit_all.ensures.crash history ready keeps follow) c.note_refusal.ensures.crash)

pub returns-in-Err-clause-outlasts : goal.returns-in-Err-clause-outlasts
returns-in-Err-clause-outlasts g c = rw (← c.self.view_is) (λ history ready lasts.
    c.note_refusal.ensures.outlasts history (c.commit_all.ensures.ready ready) (c.commit_all.ensures.outlasts history ready lasts))

pub returns-in-Ok-clause-found : goal.returns-in-Ok-clause-found
returns-in-Ok-clause-found g c = rw (← c.self.view_is) (λ history ready keeps follow held finds. c.commit_all.ensures.found history ready keeps follow held finds)

pub returns-in-Ok-clause-durable : goal.returns-in-Ok-clause-durable
returns-in-Ok-clause-durable g c = rw (← c.self.view_is) (λ history ready keeps follow. c.in-Ok.ensures.durable history ready keeps follow)

pub returns-in-Ok-clause-outlasts : goal.returns-in-Ok-clause-outlasts
returns-in-Ok-clause-outlasts g c = rw (← c.self.view_is) (λ history ready lasts. c.commit_all.ensures.outlasts history ready lasts)
