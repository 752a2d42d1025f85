-- The numbers and names of refusals.
use Rattle.std.specs.Prelude.{ℕ, List, codes}
use Rattle.pres_plan.specs.declared.fault.PlanFault.{PlanFault}
use Rattle.pres_plan.specs.declared.fault.PlanFault.TheVariants.{Memory, Full}

abbrev pub number_of : PlanFault → ℕ
number_of Memory = 1
number_of Full = 2

abbrev pub name_of : PlanFault → List ℕ
name_of Memory = codes "Memory"
name_of Full = codes "Full"
