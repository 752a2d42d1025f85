use Rattle.std.proofs.Common.{rules, ap, ◌∙◌}
use Rattle.std.specs.Prelude.{filter}
use Rattle.std.proofs.lemmas.Fn.{filter_same}
use Rattle.pres_client_state.specs.Queues.{is_write}
use Rattle.pres_client_state.specs.ClientQueues.{QueuesState}
use Rattle.pres_client_state.proofs.client_queues.ClientQueues.keep_writes.Goals as goal

pub returns-clause-queue : goal.returns-clause-queue
returns-clause-queue c = filter_same _ is_write _ (λ x b f' k. search rules) _ _ c.retain.ensures.filtered ∙ ap (λ (m : QueuesState). filter is_write m.queue) c.self.view_is
