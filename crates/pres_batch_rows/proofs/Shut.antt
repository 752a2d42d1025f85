-- A store that was shut does nothing.
use Rattle.std.proofs.Common.{◌≡◌, false, Result, Ok, Err, refl, IsTrue}
use Rattle.std.specs.Result.{is_ok, OnOk}
use Rattle.sqlite.specs.State.{State, IsUnchanged}
use Rattle.pres_faults.specs.declared.saved_fault.SavedFault.{SavedFault}

pub nothing_done : (old new : State) (r : Result (Unit {0}) SavedFault) → OnOk r (IsUnchanged old new) → (IsTrue old.is_open → ⊥) → is_ok r ≡ false
nothing_done old new (Ok _) same shut = absurd (shut same.0.was_open)
nothing_done old new (Err e) same shut = refl
