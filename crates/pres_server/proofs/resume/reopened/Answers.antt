use Rattle.std.proofs.Common.{refl, sym, ◌∙◌, ap, subst, ◌≡◌, [], arith}
use Rattle.std.specs.BTreeMap.{get}
use Rattle.std.specs.List.Sorted.{IsStrictlySortedBy}
use Rattle.std.proofs.lemmas.Grind.{common_steps}
use Rattle.pres_ids.specs.Ids.{client_cmp}
use Rattle.pres_server.specs.InternalBases.{reopened, live_in}
use Rattle.pres_server.proofs.Resumed.{told, told_step, told_all, live_keys, Opens, opens_listeners, opens_more}
use Rattle.pres_server.proofs.resume.reopened.Goals as goal

pub listen_all-requires : goal.listen_all-requires
listen_all-requires c =
    let sessions = c.args.sessions in
    opens_listeners c.requires.each.0 sessions c.in-Some.part c.next.new.self.rest.items c.loop-part.listeners (subst (λ l. Opens sessions l c.loop-part.listeners) c.in-Some.ensures.steps.0 c.loop-part.invariant.0) c.requires.each.1 c.requires.in_order

pub loop-part-preserved : goal.loop-part-preserved
loop-part-preserved c =
    let sessions = c.args.sessions in
    let part = c.in-Some.part in
    let left = c.in-Some.ensures.steps.0 in
    let moment = c.args.moment in
    let goes_on : c.resumed-reopened.result ≡ reopened moment part =
    c.resumed-reopened.ensures
    ∙ (λ i. record { stamp = c.stamp.ensures i; count = part.q; sent = part.r; heard = moment; plan = (c.in_ok-plan.ensures ∙ c.as_slice.ensures) i }) in (
      opens_more c.requires.each.0 sessions part c.next.new.self.rest.items c.loop-part.listeners (subst (λ l. Opens sessions l c.loop-part.listeners) left c.loop-part.invariant.0) c.requires.each.1 c.requires.in_order c.listen_all.new.listeners c.in_ok-listen_all.ensures,
      λ q.
          told_step c.loop-part.live c.insert.new.self _ _ (live_in moment c.loop-part.part-iterator.rest.items) (part.session.client, reopened moment part) (live_in moment c.next.new.self.rest.items) c.in_ok-insert.ensures.updates (ap (live_in moment) left) refl goes_on q
          ∙ c.loop-part.invariant.1 q,
      c.in_ok-insert.ensures.ordered,
    )

pub returns-clause-live : goal.returns-clause-live
returns-clause-live c = λ q.
    let none : c.loop-part.part-iterator.rest.items ≡ [] = grind (arith, common_steps) in
    sym (ap (λ l. told (live_in c.args.moment l) q (get client_cmp c.loop-part.live q)) none)
    ∙ c.loop-part.invariant.1 q
    ∙ told_all (live_in c.args.moment c.args.sessions) q (subst (IsStrictlySortedBy client_cmp) (sym (live_keys c.args.moment c.args.sessions)) c.requires.in_order)
