-- The numbers and names of refusals.
use Rattle.std.specs.Prelude.{ℕ, List, codes}
use Rattle.pres_tree.specs.Faults as tree
use Rattle.pres_write.specs.declared.fault.WriteFault.{WriteFault}
use Rattle.pres_write.specs.declared.fault.WriteFault.TheVariants.{Tree, Overlap, ManyPaths, Shape}

abbrev pub number_of : WriteFault → ℕ
number_of (Tree e) = tree.number_of e
number_of Overlap = 9
number_of ManyPaths = 10
number_of Shape = 11

abbrev pub name_of : WriteFault → List ℕ
name_of (Tree e) = tree.name_of e
name_of Overlap = codes "Overlap"
name_of ManyPaths = codes "ManyPaths"
name_of Shape = codes "Shape"
