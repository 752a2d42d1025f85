-- Why a world refuses.
use Rattle.pres_client.specs.declared.fault.ClientFault.{ClientFault}
use Rattle.pres_client.specs.declared.fault.ClientFault.TheVariants as client
use Rattle.pres_world.specs.declared.fault.WorldFault.{WorldFault}
use Rattle.pres_world.specs.declared.fault.WorldFault.TheVariants as world

-- the client's own refusal, apart from a failed allocation
abbrev pub fault_of : ClientFault → WorldFault
fault_of client.Memory = world.Memory
fault_of client.Offline = world.Client client.Offline
fault_of client.NoSuchRequest = world.Client client.NoSuchRequest
fault_of client.Spent = world.Client client.Spent
fault_of (client.Write f) = world.Client (client.Write f)
