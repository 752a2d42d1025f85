pub mod Cores
pub mod CoreCalls
pub mod CoreTurns
pub mod CoreGroups
pub mod InternalGroups
