use Rattle.std.proofs.Common.{[], ◌∷◌, refl}
use Rattle.pres_keeper.proofs.Turned.{alone_turn}
use Rattle.pres_keeper.proofs.engine.Engine.turn_alone.Goals as goal

pub returns-clause-turned : goal.returns-clause-turned
returns-clause-turned g c = λ history leads_to.
    let K = g.K.Keeper in
    let t = c.turn-result.ensures in
    record {
      taken = c.args.input ∷ [];
      results = c.turn-result.result ∷ [];
      queue = refl;
      told = c.in-Ok.ensures.items;
      turns = alone_turn K.works K.keeps K.outlasts c.args.self.now.keeper c.turn-result.new.self.keeper c.args.self.now.server c.turn-result.new.self.server c.args.input c.args.now c.turn-result.result history
          t.turned t.refused leads_to (t.leads history leads_to) (λ w k. t.kept history leads_to w k) (λ k m. t.durable history leads_to k m) (λ k m. t.lasts history leads_to k m) (t.outlasts history);
    }
