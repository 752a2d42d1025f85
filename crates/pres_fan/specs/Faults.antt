-- The numbers and names of refusals.
use Rattle.std.specs.Prelude.{ℕ, List, codes}
use Rattle.pres_fan.specs.declared.fault.FanFault.{FanFault}
use Rattle.pres_fan.specs.declared.fault.FanFault.TheVariants.{Memory, Full}

abbrev pub number_of : FanFault → ℕ
number_of Memory = 1
number_of Full = 2

abbrev pub name_of : FanFault → List ℕ
name_of Memory = codes "Memory"
name_of Full = codes "Full"
