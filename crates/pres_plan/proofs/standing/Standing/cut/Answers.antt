use Rattle.std.proofs.Common.{sym, ◌∙◌, arith}
use Rattle.std.proofs.lemmas.List.{take_all}
use Rattle.pres_plan.proofs.Spots.{last_forgot, first_same}
use Rattle.pres_plan.proofs.standing.Standing.cut.Goals as goal

pub loop-self-preserved : goal.loop-self-preserved
loop-self-preserved c = record {
  tells = last_forgot c.in-Some.number c.in-Some.row c.path.result.now c.loop-self.self.rows c.pop.new.self c.loop-self.self.places c.forget.new.self
      c.in-Some.ensures.ordered c.in-Some.ensures.last c.path.ensures c.loop-self.invariant.tells c.forget.ensures.told;
  tops = λ rows h. c.forget.ensures.tops rows (c.loop-self.invariant.tops rows h);
  rows = first_same c.args.len c.loop-self.self.rows c.pop.new.self (c.in-Some.number, c.in-Some.row) c.in-Some.ensures.last (omega (arith, c.loop-self-test.true, c.len.ensures.len))
      ∙ c.loop-self.invariant.rows;
}

pub loop-self-preserved-in-Some : goal.loop-self-preserved-in-Some
loop-self-preserved-in-Some c = record {
  tells = last_forgot c.in-Some.number c.in-Some.row c.path.result.now c.loop-self.self.rows c.pop.new.self c.loop-self.self.places c.forget.new.self
      c.in-Some.ensures.ordered c.in-Some.ensures.last c.path.ensures c.loop-self.invariant.tells c.forget.ensures.told;
  tops = λ rows h. c.forget.ensures.tops rows (c.loop-self.invariant.tops rows h);
  rows = first_same c.args.len c.loop-self.self.rows c.pop.new.self (c.in-Some.number, c.in-Some.row) c.in-Some.ensures.last (omega (arith, c.loop-self-test.true, c.len.ensures.len))
      ∙ c.loop-self.invariant.rows;
}

pub returns-clause-rows : goal.returns-clause-rows
returns-clause-rows c =
    sym (take_all c.args.len c.loop-self.self.rows (omega (arith, c.loop-self-test.false, c.len.ensures.len)))
    ∙ c.loop-self.invariant.rows
