use Rattle.pres_saved.proofs.watch.WatchedKeeper.base.Goals as goal

pub returns-clause-outlasts : goal.returns-clause-outlasts
returns-clause-outlasts g c = rw (← c.self.view_is) (λ history ready lasts. c.base.ensures.outlasts history ready lasts)
