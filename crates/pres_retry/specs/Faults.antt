-- The numbers of refusals.
use Rattle.std.specs.Prelude.{ℕ}
use Rattle.pres_retry.specs.declared.fault.RetryFault.{RetryFault}
use Rattle.pres_retry.specs.declared.fault.RetryFault.TheVariants.{Memory}

abbrev pub number_of : RetryFault → ℕ
number_of Memory = 1
