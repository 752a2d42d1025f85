-- The greatest whole number that JSON programs exchange safely.
use Rattle.std.specs.Prelude.{ℕ}

-- 2^53 - 1, the greatest whole number that JSON programs exchange safely (RFC 8259, section 6)
abbrev pub max_safe_integer : ℕ
max_safe_integer = 9007199254740991
