-- The two tests of keys agree.
use Rattle.std.proofs.Common.{◌≡◌, ℕ, List, rules, ◌==◌}
use Rattle.std.specs.Cmp.Lexicographic.{pointwise}
use Rattle.std.specs.Cmp.Rules.{comparing}
use Rattle.pres_tree.specs.Keys.{same_key}

pub same_key-is : (k l : List ℕ) → pointwise ◌==◌ k l ≡ same_key k l
same_key-is k l = search (comparing, rules)
