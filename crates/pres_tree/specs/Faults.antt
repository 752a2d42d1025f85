-- The numbers and names of refusals.
use Rattle.std.specs.Prelude.{ℕ, List, codes}
use Rattle.pres_tree.specs.declared.fault.TreeFault.{TreeFault}
use Rattle.pres_tree.specs.declared.fault.TreeFault.TheVariants.{Memory, EmptyKey, LongKey, BadKey, TooDeep, NotWhole, Range, Placeholder}

abbrev pub number_of : TreeFault → ℕ
number_of Memory = 1
number_of EmptyKey = 2
number_of LongKey = 3
number_of BadKey = 4
number_of TooDeep = 5
number_of NotWhole = 6
number_of Range = 7
number_of Placeholder = 8

abbrev pub name_of : TreeFault → List ℕ
name_of Memory = codes "Memory"
name_of EmptyKey = codes "EmptyKey"
name_of LongKey = codes "LongKey"
name_of BadKey = codes "BadKey"
name_of TooDeep = codes "TooDeep"
name_of NotWhole = codes "NotWhole"
name_of Range = codes "Range"
name_of Placeholder = codes "Placeholder"
