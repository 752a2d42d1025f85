-- The refusals that faults of the database are.
use Rattle.std.proofs.Common.{◌≡◌, ◌⊎◌, inl, inr, refl}
use Rattle.sqlite.specs.declared.error.Error.{Error}
use Rattle.sqlite.specs.declared.error.Error.TheVariants.{SqliteFailure}
use Rattle.sqlite.specs.declared.error.ErrorCode.TheVariants.{OutOfMemory}
use Rattle.pres_faults.specs.declared.saved_fault.SavedFault.{SavedFault}
use Rattle.pres_faults.specs.declared.saved_fault.SavedFault.TheVariants.{Memory, Database}
use Rattle.pres_faults.specs.SavedFaults.{fault_of}

fault_of_cases : (e : Error) → (fault_of e ≡ Memory) ⊎ (fault_of e ≡ Database)
fault_of_cases (SqliteFailure OutOfMemory) = inl refl
fault_of_cases _ = inr refl

pub named : (fault : SavedFault) (e : Error) → fault ≡ fault_of e → (fault ≡ Memory) ⊎ (fault ≡ Database)
named fault e is = rw is (fault_of_cases e)
