pub mod Distinct
pub mod Faults
pub mod WorldClients
pub mod Orderly
pub mod Safe
pub mod ServerSides
pub mod Worlds
pub mod Unseen
