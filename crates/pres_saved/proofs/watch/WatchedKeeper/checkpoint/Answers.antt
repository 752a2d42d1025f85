use Rattle.pres_saved.proofs.watch.WatchedKeeper.checkpoint.Goals as goal

pub returns-clause-outlasts : goal.returns-clause-outlasts
returns-clause-outlasts g c = rw (← c.self.view_is) (λ history earlier ready keeps leads lasts. c.checkpoint.ensures.outlasts history earlier ready keeps leads lasts)
