-- The numbers and names of refused lines, and how a run may end at a line.
use Rattle.std.specs.Prelude.{◌≤◌, ℕ, List, codes}
use Rattle.pres_log.specs.Plains.{last_number}
use Rattle.pres_write.specs.Faults as write
use Rattle.pres_apply.specs.declared.faults.LineFault.{LineFault}
use Rattle.pres_apply.specs.declared.faults.LineFault.TheVariants.{Write, NotJson, NoMoment, TooLong}
use Rattle.pres_apply.specs.declared.faults.RunFault.{RunFault}
use Rattle.pres_apply.specs.declared.faults.RunFault.TheVariants as run

abbrev pub number_of : LineFault → ℕ
number_of (Write e) = write.number_of e
number_of NotJson = 12
number_of NoMoment = 13
number_of TooLong = 14

abbrev pub name_of : LineFault → List ℕ
name_of (Write e) = write.name_of e
name_of NotJson = codes "NotJson"
name_of NoMoment = codes "NoMoment"
name_of TooLong = codes "TooLong"

-- why a run may end when n is the greatest number so far: no memory, or no number
abbrev pub EndsAt : ℕ → RunFault → Type 0
EndsAt n run.Memory = Unit {0}
EndsAt n run.Spent = last_number ≤ n
EndsAt n run.Read = ⊥
EndsAt n run.Write = ⊥
EndsAt n run.Endless = ⊥
