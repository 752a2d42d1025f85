use Rattle.std.proofs.Common.{◌≡◌, ◌∙◌, sym, ap, subst, refl, false, [], ◌∷◌, Some, None, rules}
use Rattle.std.specs.Prelude.{IfNone}
use Rattle.pres_ids.specs.Ids.{ClientId}
use Rattle.pres_server.specs.ServerStates.{first_client}
use Rattle.pres_server.specs.Sums.{has_open_in}
use Rattle.pres_server.specs.SumStates.{SumState}
use Rattle.pres_world.proofs.Ended.{ended_by, log_by}
use Rattle.pres_world.proofs.Held.{closed}
use Rattle.pres_world.proofs.server_side.end_all.Goals as goal

pub loop-ended-preserved : goal.loop-ended-preserved
loop-ended-preserved c = λ s h.
    let client = c.in-Some.client in
    let here = c.loop-ended.invariant s h in
    let u = here.0 in
    let end = c.in_ok-next.ensures.ended u here.1 in
    let first : first_client u.heard ≡ Some client = ap (λ (x : SumState). first_client x.heard) (sym here.1.1) ∙ sym c.in_ok-client.ensures.first ∙ c.in-Some.is in (
      end.0,
      end.1,
      log_by c.args.now client u end.0 s.log c.loop-ended.ended.items c.end_one.new.ended.items end.2 here.2,
      λ cs t e. here.3 (client ∷ cs) t (ended_by c.args.now client u end.0 t c.loop-ended.ended.items c.end_one.new.ended.items cs first end.2 e),
    )

pub returns-clause-ended : goal.returns-clause-ended
returns-clause-ended c = λ s h.
    let server = c.loop-ended.server in
    let here = c.loop-ended.invariant s h in
    let none : c.in_ok-client.field-0 ≡ None = search rules in
    let all_closed = closed server here.0 here.1 (subst (λ o. IfNone o ((x : ClientId) → has_open_in x server.sum ≡ false)) none c.in_ok-client.ensures.none) in
    let all = here.3 [] here.0 (refl, all_closed) in
    (all.0, here.0, here.1, all.1, here.2)
