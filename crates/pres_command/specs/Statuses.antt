-- Exit statuses.
use Rattle.std.specs.Prelude.{◌≤◌, ℕ}

-- done, input refused, bad words, file refused, socket refused, out of memory
abbrev pub IsStatus : ℕ → Type 0
IsStatus status = status ≤ 5
