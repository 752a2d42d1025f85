use Rattle.pres_dispatch.proofs.WholeLogs.{whole_log_stands}
use Rattle.pres_dispatch.proofs.laws.whole_log_stands.Goals as goal

pub returns : goal.returns
returns c = whole_log_stands
