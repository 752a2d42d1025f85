pub mod Batches
pub mod Faults
pub mod Logs
pub mod Plains
pub mod LogsAbove
