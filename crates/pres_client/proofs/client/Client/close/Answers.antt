use Rattle.pres_client.proofs.Ranges.{in_range-closed}
use Rattle.pres_client.proofs.client.Client.close.Goals as goal

pub invariant_of-self : goal.invariant_of-self
invariant_of-self c = rw c.keep_writes.ensures.queue (in_range-closed _ _ _ _ _ _ c.self.invariant)
