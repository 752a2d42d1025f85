-- The numbers and names of refusals.
use Rattle.std.specs.Prelude.{ℕ, List, codes}
use Rattle.pres_client.specs.declared.fault.ClientFault.{ClientFault}
use Rattle.pres_client.specs.declared.fault.ClientFault.TheVariants.{Memory, Offline, NoSuchRequest, Spent, Write}

abbrev pub number_of : ClientFault → ℕ
number_of Memory = 1
number_of Offline = 2
number_of NoSuchRequest = 3
number_of Spent = 4
number_of (Write e) = 5

abbrev pub name_of : ClientFault → List ℕ
name_of Memory = codes "Memory"
name_of Offline = codes "Offline"
name_of NoSuchRequest = codes "NoSuchRequest"
name_of Spent = codes "Spent"
name_of (Write e) = codes "Write"
