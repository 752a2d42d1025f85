pub mod Faults
pub mod Laws
pub mod Levels
pub mod Listeners
pub mod Sets
