-- What is read after a field that was read.
use Rattle.std.proofs.Common.{◌≡◌, Result, Ok}
use Rattle.pres_wire.specs.declared.fault.WireFault.{WireFault}
use Rattle.pres_wire.specs.UpForms.{and_then}

pub after : {A B : Type 0} {read : Result A WireFault} {a : A} (then : A → Result B WireFault) {found : Result B WireFault} → read ≡ Ok a → then a ≡ found → and_then read then ≡ found
after then is so = search
