-- no write before the first place is above the number, and each from the second one on is
use Rattle.std.proofs.Common.{◌≡◌, ◌≤◌, ◌-◌, drop, length}
use Rattle.pres_retry.specs.Above.{rows_above}
use Rattle.pres_retry.proofs.answers.Answers.count_up_to.Given as goal

abbrev pub invariant-halves : goal.invariant-halves
invariant-halves l =
    (l.low ≤ l.high)
    × (l.high ≤ length l.self)
    × (rows_above l.number (drop l.low l.self) ≡ rows_above l.number l.self)
    × (rows_above l.number (drop l.high l.self) ≡ drop l.high l.self)

abbrev pub decreases-halves : goal.decreases-halves
decreases-halves l = l.high - l.low
