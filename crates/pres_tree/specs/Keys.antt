-- What a key is. The bounds are those of the keys of Firebase Realtime Database ("Structure your database": at
-- most 768 bytes of UTF-8, without control characters, 127 and . $ # [ ] /); that a key has a byte is ours.
use Rattle.std.specs.Prelude.{ℕ, List, Bool, ◌||◌, ◌==◌, nat_lt, length, Option, Some, None, is_none, if◌then◌else◌}
use Rattle.std.specs.List.{list_any}
use Rattle.std.specs.Ordering.{nat_cmp, eq_by_cmp}
use Rattle.std.specs.declared.cmp.Ordering.{Ordering}
use Rattle.std.specs.Cmp.Lexicographic.{slice_cmp}
use Rattle.pres_tree.specs.declared.fault.TreeFault.{TreeFault}
use Rattle.pres_tree.specs.declared.fault.TreeFault.TheVariants.{EmptyKey, LongKey, BadKey}

-- a key is the bytes of its text
abbrev pub Key : Type 0
Key = List ℕ

-- keys are ordered byte by byte, a prefix first
abbrev pub key_cmp : Key → Key → Ordering
key_cmp = slice_cmp nat_cmp

abbrev pub same_key : Key → Key → Bool
same_key = eq_by_cmp key_cmp

-- the bytes that no key has: the controls, and . $ # [ ] /
abbrev pub is_banned : ℕ → Bool
is_banned b = nat_lt b 32 || b == 127 || b == 46 || b == 36 || b == 35 || b == 91 || b == 93 || b == 47

-- what is wrong with a text as a key, the first that applies
abbrev pub key_fault : List ℕ → Option TreeFault
key_fault bs = if length bs == 0 then Some EmptyKey else (if nat_lt 768 (length bs) then Some LongKey else (if list_any is_banned bs then Some BadKey else None))

abbrev pub is_key : List ℕ → Bool
is_key bs = is_none (key_fault bs)
