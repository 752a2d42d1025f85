use Rattle.pres_client.proofs.Trails.{views_hold}
use Rattle.pres_client.proofs.laws.views_hold.Goals as goal

pub returns : goal.returns
returns c = views_hold
