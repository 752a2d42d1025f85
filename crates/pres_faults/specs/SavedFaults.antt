-- The numbers and names of refusals, and the refusal that a fault of the database is.
use Rattle.std.specs.Prelude.{ℕ, List, codes}
use Rattle.sqlite.specs.declared.error.Error.{Error}
use Rattle.sqlite.specs.declared.error.Error.TheVariants.{SqliteFailure}
use Rattle.sqlite.specs.declared.error.ErrorCode.TheVariants.{OutOfMemory}
use Rattle.pres_faults.specs.declared.saved_fault.SavedFault.{SavedFault}
use Rattle.pres_faults.specs.declared.saved_fault.SavedFault.TheVariants.{Memory, Database, NotOurs, BadRow, Version}

abbrev pub number_of : SavedFault → ℕ
number_of Memory = 1
number_of Database = 2
number_of NotOurs = 3
number_of (BadRow k) = 4
number_of Version = 5

abbrev pub name_of : SavedFault → List ℕ
name_of Memory = codes "Memory"
name_of Database = codes "Database"
name_of NotOurs = codes "NotOurs"
name_of (BadRow k) = codes "BadRow"
name_of Version = codes "Version"

-- a failed allocation is Memory, all else Database
abbrev pub fault_of : Error → SavedFault
fault_of (SqliteFailure OutOfMemory) = Memory
fault_of _ = Database
