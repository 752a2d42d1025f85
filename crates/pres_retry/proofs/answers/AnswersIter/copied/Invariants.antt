-- the copies so far, and those that are left, are all of them
use Rattle.std.proofs.Common.{◌≡◌, ◌++◌}
use Rattle.pres_retry.proofs.answers.AnswersIter.copied.Given as goal

abbrev pub invariant-loop-answer : goal.invariant-loop-answer
invariant-loop-answer l = l.made ++ l.answer-iterator ≡ l.initial.answer-iterator
