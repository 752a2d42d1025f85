-- The plan owes the rows that were put into it, by any tree and moment.
use Rattle.std.proofs.Common.{[], ◌∙◌, ap}
use Rattle.tests_of_server.specs.declared.tests.sessions.Rows.{Rows}
use Rattle.tests_of_server.proofs.tests.sessions.pay.Goals as goal

pub spend-gone-requires : goal.spend-gone-requires
spend-gone-requires g c = record { tree = []; moment = 0; all = c.as_slice.ensures ∙ c.copy-rows.ensures ∙ ap (λ (plan : Rows). plan.rows.items) c.plan.ensures }
