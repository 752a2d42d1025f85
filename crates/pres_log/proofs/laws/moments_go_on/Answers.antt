use Rattle.pres_log.proofs.Entries.{last_moment-push}
use Rattle.pres_log.proofs.laws.moments_go_on.Goals as goal

pub returns : goal.returns
returns c = last_moment-push
