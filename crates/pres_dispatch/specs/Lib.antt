pub mod Dispatches
pub mod Groups
pub mod Laws
