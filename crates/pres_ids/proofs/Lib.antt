pub mod Pairs
pub mod Sessions
