use Rattle.std.proofs.Common.{◌≡◌, length, subst, ap, ◌∙◌, arith}
use Rattle.pres_wire.specs.Values.{Rising}
use Rattle.pres_wire.proofs.Listed.{values_low}
use Rattle.pres_wire.proofs.Rising.{values_read}
use Rattle.pres_wire.proofs.values.Values.to_value.Goals as goal
use Rattle.std.proofs.lemmas.Grind.{common_steps}

pub returns-clause-reads_back : goal.returns-clause-reads_back
returns-clause-reads_back c =
    let same : length c.deref-item-items.result.now ≡ length c.args.self.now = ap length (c.deref-item-items.ensures.value ∙ c.self.view_is) in
    values_read c.args.self.now (subst Rising c.self.view_is c.self.invariant) (λ k d l. c.loop-item.invariant.read k d (omega arith))

pub returns-clause-low : goal.returns-clause-low
returns-clause-low c =
    let same : length c.deref-item-items.result.now ≡ length c.args.self.now = ap length (c.deref-item-items.ensures.value ∙ c.self.view_is) in
    values_low c.args.self.now (λ k d l. c.loop-item.invariant.low k d (omega arith))

pub loop-item-init : goal.loop-item-init
loop-item-init c = grind (arith, common_steps)

pub loop-item-preserved : goal.loop-item-preserved
loop-item-preserved c = grind (arith, common_steps)
