pub mod Keepers
pub mod Settlements
pub mod Engines
pub mod EngineTurns
pub mod EngineGroups
