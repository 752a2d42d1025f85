use Rattle.pres_log.proofs.Entries.{entries-push}
use Rattle.pres_log.proofs.laws.batches_add_entries.Goals as goal

pub returns : goal.returns
returns c = entries-push
