use Rattle.std.proofs.Common.{◌∙◌, ap, sym, subst}
use Rattle.std.specs.BTreeMap.{get, Updates}
use Rattle.pres_ids.specs.Ids.{client_cmp}
use Rattle.pres_ids.specs.declared.id.SessionId.{SessionId}
use Rattle.pres_server.specs.InternalSessions.{MaySend, sent_one}
use Rattle.pres_server.specs.InternalPushes.{standing, after_pushes, MayPushAll}
use Rattle.pres_server.proofs.Pushed.{stands_after}
use Rattle.pres_server.proofs.push.count_all.Goals as goal

pub emit-requires : goal.emit-requires
emit-requires c =
    let old = c.loop-reached.places in
    subst (λ (s : SessionId). MaySend (get client_cmp old.live s.client)) (sym c.session.ensures)
    (subst (MayPushAll (standing old)) c.in-Some.ensures.steps.0 c.loop-reached.invariant.0).0.number

pub loop-reached-preserved : goal.loop-reached-preserved
loop-reached-preserved c =
    let k = c.in-Some.ensures.steps.0 in
    let before = c.loop-reached.invariant in
    let old = c.loop-reached.places in
    let rest = c.next.new.self.rest.items in
    let live = subst (λ (s : SessionId). Updates client_cmp old.live c.emit.new.self.live s.client (sent_one (get client_cmp old.live s.client))) c.session.ensures c.emit.ensures.live in
    let s = stands_after c.in-Some.reached old c.emit.new.self live in (
      subst (λ f. MayPushAll f rest) (sym s) (subst (MayPushAll (standing old)) k before.0).1,
      (λ d. ap (λ f. after_pushes f rest d) s ∙ sym (ap (λ l. after_pushes (standing old) l d) k) ∙ before.1 d),
      c.emit.ensures.gone ∙ before.2,
    )
