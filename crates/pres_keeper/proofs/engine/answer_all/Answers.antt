use Rattle.std.proofs.Common.{◌∙◌, ◌++◌, ◌∷◌, [], List, Ok, ap, sym, append_assoc, arith}
use Rattle.std.specs.Vec.Iter.{into_iter_items}
use Rattle.pres_keeper.specs.EngineGroups.{TurnResult, answered}
use Rattle.pres_keeper.proofs.engine.answer_all.Goals as goal

pub answers-preserved : goal.answers-preserved
answers-preserved c =
    let told = c.answers.results.items in
    let left = answered (into_iter_items c.next.new.self) in
    record {
      items =
          ap (λ (l : List TurnResult). l ++ left) c.in-Ok.ensures.items
          ∙ append_assoc told (Ok c.in-Some.outs ∷ []) left
          ∙ ap (λ l. told ++ answered l) (sym c.in-Some.ensures.cases.0)
          ∙ c.answers.invariant.items;
      told = omega (arith, c.in-Ok.ensures.len, c.in-Some.ensures.len, c.answers.invariant.told);
      room = omega (arith, c.push.ensures.capacity, c.answers.invariant.room);
    }
