use Rattle.pres_saved.proofs.replaying.ReplayingTake.take.Goals as goal

pub returns-in-Ok-clause-taken : goal.returns-in-Ok-clause-taken
returns-in-Ok-clause-taken c = rw (← c.self.view_is) (record {
  batch = c.in-Some.batch;
  read = cc (c.in_ok-batch.ensures, c.in-Some.is, c.number.ensures.number);
  may = c.in-Ok.ensures.follows;
  added = c.in-Ok.ensures.added;
})
