use Rattle.pres_server.specs.Histories.{with_batch}
use Rattle.pres_saved.proofs.Watching.{leaves_then}
use Rattle.pres_saved.proofs.watch.WatchedKeeper.commit.Goals as goal

pub returns-in-Err-clause-crash : goal.returns-in-Err-clause-crash
returns-in-Err-clause-crash g c = rw (← c.self.view_is) (λ history ready keeps first nulls.
    leaves_then g.S.Store c.self.inside.keeper c.commit.new.self c.note_refusal.new.self (with_batch history c.args.batch.now) (c.commit.ensures.crash history ready keeps first nulls) c.note_refusal.ensures.crash)

pub returns-in-Err-clause-outlasts : goal.returns-in-Err-clause-outlasts
returns-in-Err-clause-outlasts g c = rw (← c.self.view_is) (λ history ready lasts.
    c.note_refusal.ensures.outlasts history (c.commit.ensures.ready ready) (c.commit.ensures.outlasts history ready lasts))

pub returns-in-Ok-clause-found : goal.returns-in-Ok-clause-found
returns-in-Ok-clause-found g c = rw (← c.self.view_is) (λ history ready keeps first nulls held finds. c.commit.ensures.found history ready keeps first nulls held finds)

pub returns-in-Ok-clause-durable : goal.returns-in-Ok-clause-durable
returns-in-Ok-clause-durable g c = rw (← c.self.view_is) (λ history ready keeps first nulls. c.in-Ok.ensures.durable history ready keeps first nulls)

pub returns-in-Ok-clause-outlasts : goal.returns-in-Ok-clause-outlasts
returns-in-Ok-clause-outlasts g c = rw (← c.self.view_is) (λ history ready lasts. c.commit.ensures.outlasts history ready lasts)
