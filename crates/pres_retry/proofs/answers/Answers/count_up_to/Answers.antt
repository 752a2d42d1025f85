-- the write in the middle says on which side of it the first one above the number is
use Rattle.std.proofs.Common.{◌+◌, ◌-◌, ◌/◌, ◌<◌, sym, ◌∙◌, arith}
use Rattle.std.proofs.lemmas.Bool.{ltb-true, ltb-false}
use Rattle.pres_retry.proofs.Above.{above_past, above_from, row_within}
use Rattle.pres_retry.proofs.answers.Answers.count_up_to.Goals as goal

pub halves-preserved-then-is_above : goal.halves-preserved-then-is_above
halves-preserved-then-is_above c =
    let rows = c.args.self.now in
    let middle = c.halves.low + (c.halves.high - c.halves.low) / 2 in
    let lower : middle < c.halves.high = omega (arith, c.halves-test.true) in
    let found = row_within rows middle (omega (arith, lower, c.halves.invariant.1)) in
    let after = ltb-true c.args.number found.0.done (sym (c.is_above.ensures found.0 found.1) ∙ c.if-is_above.true) in
    (omega arith, omega (arith, lower, c.halves.invariant.1), c.halves.invariant.2, above_from c.args.number 0 rows middle found.0 c.requires found.1 after)

pub halves-preserved : goal.halves-preserved
halves-preserved c =
    let rows = c.args.self.now in
    let middle = c.halves.low + (c.halves.high - c.halves.low) / 2 in
    let lower : middle < c.halves.high = omega (arith, c.halves-test.true) in
    let found = row_within rows middle (omega (arith, lower, c.halves.invariant.1)) in
    let before = ltb-false c.args.number found.0.done (sym (c.is_above.ensures found.0 found.1) ∙ c.if-is_above.false) in
    (omega (arith, lower), c.halves.invariant.1, above_past c.args.number 0 rows middle found.0 c.requires found.1 before, c.halves.invariant.3)
