use Rattle.std.proofs.Common.{refl, sym, ◌∙◌, ap, subst, ◌≡◌, [], arith}
use Rattle.std.specs.BTreeMap.{get}
use Rattle.std.specs.List.Sorted.{IsStrictlySortedBy}
use Rattle.std.proofs.lemmas.Grind.{common_steps}
use Rattle.pres_ids.specs.Ids.{client_cmp}
use Rattle.pres_server.specs.InternalBases.{lasts_in}
use Rattle.pres_server.proofs.Resumed.{told, told_step, told_all, lasts_keys, Knows, knows_stranger, knows_more}
use Rattle.pres_server.proofs.resume.known.Goals as goal

pub keep_all-requires : goal.keep_all-requires
keep_all-requires c =
    knows_stranger c.args.clients c.in-Some.client c.next.new.self.rest.items c.loop-client.retry (subst (λ l. Knows c.args.clients l c.loop-client.retry) c.in-Some.ensures.steps.0 c.loop-client.invariant.0) c.requires

pub loop-client-preserved : goal.loop-client-preserved
loop-client-preserved c =
    let left = c.in-Some.ensures.steps.0 in (
      knows_more c.args.clients c.in-Some.client c.next.new.self.rest.items c.loop-client.retry (subst (λ l. Knows c.args.clients l c.loop-client.retry) left c.loop-client.invariant.0) c.requires c.keep_all.new.retry c.in_ok-keep_all.ensures,
      λ q.
          told_step c.loop-client.gone c.insert.new.self _ _ (lasts_in c.loop-client.client-iterator.rest.items) (c.in-Some.client.id, c.in-Some.client.last) (lasts_in c.next.new.self.rest.items) c.in_ok-insert.ensures.updates (ap lasts_in left) refl c.known.ensures q
          ∙ c.loop-client.invariant.1 q,
      c.in_ok-insert.ensures.ordered,
    )

pub returns-clause-gone : goal.returns-clause-gone
returns-clause-gone c = λ q.
    let none : c.loop-client.client-iterator.rest.items ≡ [] = grind (arith, common_steps) in
    sym (ap (λ l. told (lasts_in l) q (get client_cmp c.loop-client.gone q)) none)
    ∙ c.loop-client.invariant.1 q
    ∙ told_all (lasts_in c.args.clients) q (subst (IsStrictlySortedBy client_cmp) (sym (lasts_keys c.args.clients)) c.requires)
