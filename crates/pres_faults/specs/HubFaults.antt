-- The engine's refusals, as a hub names them.
use Rattle.pres_faults.specs.declared.engine_fault.EngineFault.{EngineFault}
use Rattle.pres_faults.specs.declared.engine_fault.EngineFault.TheVariants as engine
use Rattle.pres_faults.specs.declared.hub_fault.HubFault.{HubFault}
use Rattle.pres_faults.specs.declared.hub_fault.HubFault.TheVariants as why

abbrev pub of_engine : EngineFault → HubFault
of_engine engine.Memory = why.Memory
of_engine (engine.Refused f) = why.Refused f
of_engine (engine.Keeper f) = why.Keeper f
of_engine engine.Down = why.Down
