pub mod Forms
pub mod Reads
pub mod Checks
