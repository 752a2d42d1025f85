use Rattle.std.proofs.Common.{◌≡◌, ◌∙◌, List, [], sym, ap}
use Rattle.std.specs.Ordering.{eq_by_cmp}
use Rattle.pres_plan.specs.Plans.{due}
use Rattle.pres_ids.specs.Ids.{ClientId, client_cmp}
use Rattle.pres_server.specs.InternalSessions.{Session}
use Rattle.pres_server.proofs.Clients.{same_by_cmp}
use Rattle.pres_server.proofs.client_sessions.ClientSessions.make_room.Goals as goal

pub spend-gone-requires : goal.spend-gone-requires
spend-gone-requires c =
    let nothing = ap (λ (session : Session). session.plan) (c.end.ensures.session ∙ c.first-blank.ensures) ∙ c.new.ensures in
    record { tree = []; moment = 0; all = sym (ap (due [] 0) nothing) }

pub returns-clause-others : goal.returns-clause-others
returns-clause-others c = λ other apart.
    c.in_ok-insert.ensures.updates.2 other (ap (λ (k : ClientId). eq_by_cmp client_cmp k other) c.in_ok-copy.ensures ∙ same_by_cmp c.args.client.now other ∙ apart)
