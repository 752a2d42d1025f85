use Rattle.pres_keeper.proofs.Invariants.{kept_anew}
use Rattle.pres_keeper.proofs.engine.Engine.checkpoint.Goals as goal

pub invariant_of-self : goal.invariant_of-self
invariant_of-self g c =
    let K = g.K.Keeper in
    let was = c.self.invariant in
    let call = c.checkpoint.ensures in
    record {
      is_ready = call.ready was.is_ready;
      kept = kept_anew K.ready K.works K.keeps c.self.inside.keeper c.checkpoint.new.self c.in-Some.server c.self.inside.server c.in-Some.is was.summed was.kept
          (λ works. call.worked was.is_ready works)
          (λ history works keeps leads. c.in-Ok.ensures.ok history was.is_ready works keeps leads);
      summed = was.summed;
      nulls = was.nulls;
      counted = was.counted;
    }
