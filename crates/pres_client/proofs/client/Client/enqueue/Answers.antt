use Rattle.std.proofs.Common.{ap, ◌∙◌}
use Rattle.pres_client.specs.Clients.{no_message}
use Rattle.pres_client.proofs.Ranges.{in_range-other, below}
use Rattle.pres_client.proofs.client.Client.enqueue.Goals as goal
use Rattle.std.proofs.Common.{arith}
use Rattle.std.proofs.lemmas.Grind.{common_steps}

pub invariant_of-self-2 : goal.invariant_of-self-2
invariant_of-self-2 c =
    rw c.in_ok-push.ensures.queue
    (in_range-other _ _ _ _ _ _ c.args.queued c.self.invariant c.requires.no_write (below _ (ap no_message c.self.view_is ∙ c.requires.message)))

pub returns-clause-ok : goal.returns-clause-ok
returns-clause-ok c = grind (arith, common_steps)

pub invariant_of-self : goal.invariant_of-self
invariant_of-self c = grind (arith, common_steps)
