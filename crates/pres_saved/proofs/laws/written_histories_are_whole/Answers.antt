use Rattle.pres_saved.proofs.Written.{written_is_whole}
use Rattle.pres_saved.proofs.laws.written_histories_are_whole.Goals as goal

pub returns : goal.returns
returns c = written_is_whole
