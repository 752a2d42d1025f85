pub mod Entries
pub mod Lent
