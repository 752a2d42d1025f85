use Rattle.std.proofs.Common.{◌∙◌, ap, subst, sym, Some}
use Rattle.pres_plan.specs.Plans.{due}
use Rattle.pres_server.specs.InternalSessions.{Session, AreDueAt}
use Rattle.pres_server.proofs.client_sessions.ClientSessions.end.Goals as goal
use Rattle.std.proofs.Common.{arith}

pub spend-gone-requires : goal.spend-gone-requires
spend-gone-requires c =
    let d : AreDueAt (Some c.in-Some.live) c.args.rows.now = subst (λ live. AreDueAt live c.args.rows.now) (sym c.in-Some.ensures.value) c.requires.due in
    record { tree = d.0; moment = d.1; all = d.2 ∙ ap (λ (session : Session). due d.0 d.1 session.plan) (sym (c.end.ensures.session ∙ c.in-Ok.ensures.counted)) }

pub returns-clause-gone : goal.returns-clause-gone
returns-clause-gone c = grind arith
