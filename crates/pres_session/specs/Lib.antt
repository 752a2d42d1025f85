pub mod EndedSessions
pub mod Faults
pub mod LiveSessions
pub mod OwedRows
