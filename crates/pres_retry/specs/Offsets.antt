-- Numbers as what they are past a first one.
use Rattle.std.specs.Prelude.{◌+◌, ℕ, List, map}
use Rattle.pres_retry.specs.declared.shelf.Offsets.{Offsets}
use Rattle.pres_retry.specs.declared.shelf.Offsets.TheVariants.{TwoBytes, FourBytes, EightBytes}

-- the offsets, in whatever width they stand
abbrev pub offsets_of : Offsets → List ℕ
offsets_of (TwoBytes offsets) = offsets.items
offsets_of (FourBytes offsets) = offsets.items
offsets_of (EightBytes offsets) = offsets.items

-- the numbers that stand so far past the first one
abbrev pub numbers_from : ℕ → Offsets → List ℕ
numbers_from start offsets = map (λ offset. start + offset) (offsets_of offsets)
