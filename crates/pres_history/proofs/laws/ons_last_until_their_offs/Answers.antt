use Rattle.pres_history.proofs.LastingOns.{listens_by_ons}
use Rattle.pres_history.proofs.laws.ons_last_until_their_offs.Goals as goal

pub returns : goal.returns
returns c = listens_by_ons
