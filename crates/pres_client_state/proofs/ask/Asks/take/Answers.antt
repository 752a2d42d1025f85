use Rattle.std.proofs.Common.{◌∙◌, ap}
use Rattle.std.specs.Prelude.{◌==◌}
use Rattle.std.specs.Ordering.{nat_cmp}
use Rattle.std.proofs.lemmas.Cmp.{nat_cmp_total}
use Rattle.pres_client_state.specs.Asks.{ask_of, without_ask}
use Rattle.pres_client_state.proofs.Maps.{find_at, without_entry, same_number}
use Rattle.pres_client_state.proofs.ask.Asks.take.Goals as goal

pub returns-clause-ask : goal.returns-clause-ask
returns-clause-ask c = c.remove.ensures.value ∙ find_at nat_cmp c.args.request c.self.inside.by_request.entries ∙ ap (ask_of c.args.request) c.self.view_is

pub returns-clause-left : goal.returns-clause-left
returns-clause-left c =
    c.remove.ensures.entries
    ∙ without_entry nat_cmp nat_cmp_total (λ x y. x == y) same_number c.args.request c.self.inside.by_request.entries c.self.invariant
    ∙ ap (without_ask c.args.request) c.self.view_is
