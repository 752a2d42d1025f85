use Rattle.std.proofs.Common.{sym, ◌∙◌, ap, map}
use Rattle.std.specs.BTreeMap.{get}
use Rattle.pres_ids.specs.Ids.{client_cmp}
use Rattle.pres_server.proofs.Resumed.{told, told_step, lasts_told}
use Rattle.pres_server.proofs.client_sessions.ClientSessions.lasts.Goals as goal

pub loop-client-preserved : goal.loop-client-preserved
loop-client-preserved c = (
  λ q.
      told_step c.loop-client.lasts c.insert.new.self _ _ c.loop-client.client-iterator (c.in-Some.client.now, c.in-Some.gone.now) c.next.new.self c.in_ok-insert.ensures.updates c.in-Some.ensures.steps c.in_ok-copy.ensures c.last.ensures q
      ∙ c.loop-client.invariant.0 q,
  c.in_ok-insert.ensures.ordered,
)

pub loop-id-preserved : goal.loop-id-preserved
loop-id-preserved c = (
  λ q.
      told_step c.loop-id.lasts c.insert-in-loop-id.new.self _ _ (map (λ e. (e.0, e.1.stamp)) c.loop-id.id-iterator) (c.in-Some-2.id.now, c.in-Some-2.live.now.stamp) (map (λ e. (e.0, e.1.stamp)) c.next-in-loop-id.new.self) c.in_ok-insert-2.ensures.updates
      (ap (map (λ e. (e.0, e.1.stamp))) c.in-Some-2.ensures.steps) c.in_ok-copy-2.ensures c.stamp.ensures q
      ∙ c.loop-id.invariant.0 q,
  c.in_ok-insert-2.ensures.ordered,
)

pub returns-clause-found : goal.returns-clause-found
returns-clause-found c = λ q.
    sym (ap (λ es. told (map (λ e. (e.0, e.1.stamp)) es) q (get client_cmp c.loop-id.lasts q)) c.in-None-2.ensures.steps.0)
    ∙ c.loop-id.invariant.0 q
    ∙ lasts_told c.args.self.now.live.entries c.args.self.now.gone.entries c.iter-id-items.ensures.ordered c.iter-client-items.ensures.ordered q
