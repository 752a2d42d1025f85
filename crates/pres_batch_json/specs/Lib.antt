pub mod Entries
pub mod Reads
