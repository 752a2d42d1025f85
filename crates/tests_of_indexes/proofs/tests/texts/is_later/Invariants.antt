use Rattle.std.proofs.Common.{◌<◌, All}
use Rattle.tests_of_indexes.proofs.tests.texts.is_later.Given as goal

-- where the rows that are left have lesser numbers, all have
abbrev pub invariant-loop-number : goal.invariant-loop-number
invariant-loop-number l = All (λ row. row.q < l.q) l.number-iterator → All (λ row. row.q < l.q) l.plan
