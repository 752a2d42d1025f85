pub mod Nulls
pub mod Behind
pub mod Running
pub mod Turned
pub mod Filled
pub mod Resumed
pub mod Begins
pub mod Invariants
