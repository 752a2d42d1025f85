pub mod Faults
pub mod Outputs
pub mod ClientRuns
