use Rattle.std.proofs.Common.{rules}
use Rattle.std.proofs.lemmas.List.Sorted.{answers_always}
use Rattle.pres_write.proofs.Puttable.{steps, puts_answer}
use Rattle.pres_write.proofs.puts.may_be_puts.Goals as goal

pub returns-then-placements-le-MOST : goal.returns-then-placements-le-MOST
returns-then-placements-le-MOST c =
    puts_answer c.args.placements.now c.is_sorted_by.result (c.is_sorted_by.ensures.cases steps (answers_always _ _ _ (λ f a r g h. search rules))) c.if-placements-le-MOST.true
