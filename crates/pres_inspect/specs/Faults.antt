-- Why a file isn't looked at: as what a fault of the keeper is told, the exit status, and what to do about it.
use Rattle.std.specs.Prelude.{ℕ, List, codes}
use Rattle.pres_faults.specs.declared.saved_fault.SavedFault.{SavedFault}
use Rattle.pres_faults.specs.declared.saved_fault.SavedFault.TheVariants as saved
use Rattle.pres_inspect.specs.declared.fault.InspectFault.{InspectFault}
use Rattle.pres_inspect.specs.declared.fault.InspectFault.TheVariants as fault

-- 1 output, 3 file, 5 memory
abbrev pub status_of : InspectFault → ℕ
status_of fault.Output = 1
status_of fault.Missing = 3
status_of fault.InUse = 3
status_of (fault.Store e) = 3
status_of fault.BadCheckpoint = 3
status_of (fault.Unreadable k) = 3
status_of (fault.NotLegal k) = 3
status_of fault.Memory = 5

abbrev pub of_saved : SavedFault → InspectFault
of_saved saved.Memory = fault.Memory
of_saved e = fault.Store e

-- what to do about it, in a line
abbrev pub advice_of : InspectFault → List ℕ
advice_of fault.Memory = codes "the file is larger than the memory that is free"
advice_of fault.Output = codes "the output could not be written"
advice_of fault.Missing = codes "there is no such file"
advice_of fault.InUse = codes "the file is in use: stop its server, or look at a copy"
advice_of (fault.Store saved.NotOurs) = codes "the file is another program's database"
advice_of (fault.Store saved.Version) = codes "the file is of another version of this program"
advice_of (fault.Store saved.Memory) = codes "the file can't be read, or it is no SQLite database"
advice_of (fault.Store saved.Database) = codes "the file can't be read, or it is no SQLite database"
advice_of (fault.Store (saved.BadRow k)) = codes "the file can't be read, or it is no SQLite database"
advice_of fault.BadCheckpoint = codes "the checkpoint of the file is damaged: restore a backup"
advice_of (fault.Unreadable k) = codes "a row of the file is bad: `presence check` says which"
advice_of (fault.NotLegal k) = codes "a row of the file is bad: `presence check` says which"
