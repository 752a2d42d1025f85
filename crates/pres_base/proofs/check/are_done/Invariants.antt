-- the answers that are left decide
use Rattle.std.proofs.Common.{◌≡◌}
use Rattle.pres_base.specs.Bases.{are_done}
use Rattle.pres_base.proofs.check.are_done.Given as goal

abbrev pub invariant-loop-answer : goal.invariant-loop-answer
invariant-loop-answer l = are_done l.before l.number l.answer-iterator ≡ are_done 0 l.number l.answers
