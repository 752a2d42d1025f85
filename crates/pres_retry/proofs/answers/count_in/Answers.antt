-- as many as the full shelves hold, and those of the last one
use Rattle.std.proofs.Common.{◌+◌, ◌*◌, length, sym, ◌∙◌, ap, arith}
use Rattle.pres_retry.proofs.Shelves.{numbers_counted}
use Rattle.pres_retry.proofs.answers.count_in.Goals as goal

pub overflow_mul-result : goal.overflow_mul-result
overflow_mul-result c =
    let counted = numbers_counted 1024 c.args.full.now c.args.last.now c.requires.shelves in
    omega (arith, counted, c.requires.few)

pub overflow_add-result : goal.overflow_add-result
overflow_add-result c =
    let counted = numbers_counted 1024 c.args.full.now c.args.last.now c.requires.shelves in
    omega (arith, counted, c.requires.few)

pub returns : goal.returns
returns c = ap (λ n. length c.args.full.now * 1024 + n) c.count.ensures ∙ sym (numbers_counted 1024 c.args.full.now c.args.last.now c.requires.shelves)
