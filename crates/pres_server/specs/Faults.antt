-- The numbers and names of refusals.
use Rattle.std.specs.Prelude.{ℕ, List, codes}
use Rattle.pres_server.specs.declared.replay.ReplayFault.{ReplayFault}
use Rattle.pres_server.specs.declared.replay.ReplayFault.TheVariants.{Memory, NotLegal}

abbrev pub number_of : ReplayFault → ℕ
number_of Memory = 1
number_of (NotLegal k) = 2

abbrev pub name_of : ReplayFault → List ℕ
name_of Memory = codes "Memory"
name_of (NotLegal k) = codes "NotLegal"
