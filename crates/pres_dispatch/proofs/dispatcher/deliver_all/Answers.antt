use Rattle.std.proofs.Common.{◌∙◌, ◌++◌, ◌∷◌, [], map, ap, sym, subst, append_assoc, arith}
use Rattle.std.specs.Vec.Iter.{into_iter_items}
use Rattle.pres_dispatch.specs.Groups.{MayDeliver, AreDelivered, turned_of}
use Rattle.pres_dispatch.proofs.Several.{may_next, delivered_next}
use Rattle.pres_dispatch.proofs.dispatcher.deliver_all.Goals as goal

pub results-preserved : goal.results-preserved
results-preserved g c =
    let told = c.results.turned.items in
    let left = into_iter_items c.next.new.self in
    let next = c.in-Some.ensures.cases.0 in
    record {
      told = may_next c.in-Some.outcome left c.results.lines c.deliver.new.lines (subst (λ xs. MayDeliver xs c.results.lines) next c.results.invariant.told) c.deliver.ensures.put;
      put = λ after rest.
          c.results.invariant.put after (subst (λ xs. AreDelivered xs c.results.lines after) (sym next) (delivered_next c.in-Some.outcome left c.results.lines c.deliver.new.lines after c.deliver.ensures.put rest));
      turned =
          ap (λ l. l ++ map turned_of left) c.push_reserved.ensures.items
          ∙ append_assoc told (c.deliver.result ∷ []) (map turned_of left)
          ∙ (λ i. told ++ (c.deliver.ensures.turned i ∷ map turned_of left))
          ∙ ap (λ xs. told ++ map turned_of xs) (sym next)
          ∙ c.results.invariant.turned;
      room = omega (arith, c.push_reserved.ensures.len, c.push_reserved.ensures.capacity, c.in-Some.ensures.len, c.results.invariant.room);
      fewer = omega (arith, c.deliver.ensures.fewer, c.results.invariant.fewer);
    }
