-- Numbers that messages carry.
use Rattle.std.specs.Prelude.{ℕ, ◌≤◌}
use Rattle.pres_limits.specs.Limits.{max_safe_integer}

-- the greatest number of a message
abbrev pub greatest_number : ℕ
greatest_number = max_safe_integer

-- numbers count from 1
abbrev pub IsNumber : ℕ → Type 0
IsNumber n = (1 ≤ n) × (n ≤ greatest_number)
